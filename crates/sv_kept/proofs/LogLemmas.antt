-- What is kept of a journal goes on with one entry more.
use Rattle.std.proofs.Common.{◌≡◌, refl, sym, ap, ◌∙◌, ℕ, ◌+◌, Bool, true, false, ◌&&◌, ◌||◌, not, eqb, List, ◌∷◌, min, cond, Option, Some, None, inl, inr, arith, add_comm}
use Rattle.std.specs.Prelude.{nat_eq, option_map, if◌then◌else◌}
use Rattle.std.specs.HashMap.{HashMap, get}
use Rattle.std.proofs.Math.Nat.{min-eq_left, min-eq_right}
use Rattle.std.proofs.lemmas.Bool.{cases_lt}
use Rattle.std.proofs.lemmas.List.Sums.{sum_by-cons}
use Rattle.sv_events.specs.Entry.{PlainEntry}
use Rattle.sv_rules.specs.Entries.{Entries, next_place, has_left, is_leave, kind_of, is_held, counted_entries, held_elements, entry_weight}
use Rattle.sv_rules.specs.Legal.{is_user}
use Rattle.sv_kept.specs.declared.member.Member.{Member}
use Rattle.sv_kept.specs.Member.{HasMembers, user_member, noted, waiting_at}

-- where a party waits since an entry
abbrev pub waiting_since : Entries → PlainEntry → Option ℕ
waiting_since journal e = if is_held (kind_of e.answer) then Some (next_place journal) else None

-- who is found after an entry
found_noted : (journal : Entries) (e : PlainEntry) (users : List ℕ) (party : ℕ) →
    let found = if is_user users party then Some (user_member journal party) else None in
    (if eqb e.party party then option_map (noted (is_leave e.act) (waiting_since journal e)) found else found)
    ≡ (if is_user users party then Some (user_member (e ∷ journal) party) else None)
found_noted journal e users party = by (eqb e.party party) (is_user users party)
  where
    by : (own is : Bool) →
        let found = if is then Some (user_member journal party) else None in
        (if own then option_map (noted (is_leave e.act) (waiting_since journal e)) found else found)
        ≡ (if is then Some (record { has_left = (own && is_leave e.act) || has_left journal party; waiting = if own then waiting_since journal e else waiting_at journal party }) else None)
    by true true = refl
    by true false = refl
    by false true = refl
    by false false = refl

-- what is kept of users goes on with an entry that is noted
pub members_noted : {S : Type 0} (journal : Entries) (e : PlainEntry) (users : List ℕ) (old new : HashMap ℕ Member S) (leaves : Bool) (waiting : Option ℕ) →
    leaves ≡ is_leave e.act → waiting ≡ waiting_since journal e → HasMembers journal users old →
    ((party : ℕ) → get nat_eq new party ≡ (if eqb e.party party then option_map (noted leaves waiting) (get nat_eq old party) else get nat_eq old party)) →
    HasMembers (e ∷ journal) users new
members_noted journal e users old new leaves waiting leaves_is waiting_is has note party =
    note party
    ∙ ap (λ (found : Option Member). if eqb e.party party then option_map (noted leaves waiting) found else found) (has party)
    ∙ rw (leaves_is, waiting_is) (found_noted journal e users party)

-- a sum that is capped may be capped before
pub capped_sum : (a b limit : ℕ) → min (min a limit + min b limit) limit ≡ min (a + b) limit
capped_sum a b limit = elim (cases_lt a limit) [
  | inr high ↦
      ap (λ x. min (x + min b limit) limit) (min-eq_right high) ∙ min-eq_right (omega arith) ∙ sym (min-eq_right (omega arith))
  | inl low ↦ elim (cases_lt b limit) [
    | inl also ↦ ap (λ x. min (x + min b limit) limit) (min-eq_left (omega arith)) ∙ ap (λ x. min (a + x) limit) (min-eq_left (omega arith))
    | inr high ↦
        ap (λ x. min (x + min b limit) limit) (min-eq_left (omega arith)) ∙ ap (λ x. min (a + x) limit) (min-eq_right high) ∙ min-eq_right (omega arith) ∙ sym (min-eq_right (omega arith))
  ]
]

pub capped_more : (a limit : ℕ) → min (min a limit + 1) limit ≡ min (a + 1) limit
capped_more a limit = elim (cases_lt a limit) [
  | inr high ↦ ap (λ x. min (x + 1) limit) (min-eq_right high) ∙ min-eq_right (omega arith) ∙ sym (min-eq_right (omega arith))
  | inl low ↦ ap (λ x. min (x + 1) limit) (min-eq_left (omega arith))
]

-- the count with an entry more
pub counted_more : (journal : Entries) (e : PlainEntry) (limit : ℕ) →
    (if is_leave e.act then min (counted_entries journal) limit else min (min (counted_entries journal) limit + 1) limit) ≡ min (counted_entries (e ∷ journal)) limit
counted_more journal e limit = by (is_leave e.act) ∙ ap (λ n. min n limit) (sym (sum_by-cons (λ x. cond {A = ℕ} (not (is_leave x.act)) 1 0) e journal))
  where
    by : (b : Bool) → (if b then min (counted_entries journal) limit else min (min (counted_entries journal) limit + 1) limit) ≡ min (cond {A = ℕ} (not b) 1 0 + counted_entries journal) limit
    by true = ap (λ n. min n limit) (omega arith)
    by false = capped_more (counted_entries journal) limit ∙ ap (λ n. min n limit) (add_comm (counted_entries journal) 1)

pub held_more : (journal : Entries) (e : PlainEntry) (limit : ℕ) → min (min (held_elements journal) limit + min (entry_weight e) limit) limit ≡ min (held_elements (e ∷ journal)) limit
held_more journal e limit =
    capped_sum (held_elements journal) (entry_weight e) limit ∙ ap (λ n. min n limit) (add_comm (held_elements journal) (entry_weight e) ∙ sym (sum_by-cons entry_weight e journal))
