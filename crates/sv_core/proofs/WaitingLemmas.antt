-- Who has left and who waits: what is kept of users tells it of every party.
use Rattle.std.proofs.Common.{◌≡◌, refl, sym, ap, ◌∙◌, ℕ, suc, ◌-◌, ◌≤◌, ◌<◌, Bool, true, false, ◌&&◌, ◌||◌, not, eqb, List, [], ◌∷◌, length, map, get_or, Option, Some, None, ◌⊎◌, inl, inr, arith}
use Rattle.std.specs.Prelude.{is_some, if◌then◌else◌}
use Rattle.std.proofs.lemmas.Bool.{cases_Bool, or_cases, or_from, and_right, both_ways, not-true, eqb-true}
use Rattle.std.proofs.lemmas.List.{get_or-map, get_or-reverse, length-map, length-reverse}
use Rattle.std.proofs.lemmas.Option.{cond_some, none-some, same_Some}
use Rattle.sv_events.specs.Answer.{PlainAnswer, held}
use Rattle.sv_events.specs.Entry.{PlainEntry, plain_entry}
use Rattle.sv_events.specs.declared.entry.Entry.{Entry}
use Rattle.sv_events.specs.declared.event.Act.{Act}
use Rattle.sv_events.specs.declared.event.Act.TheVariants.{Leave}
use Rattle.sv_events.specs.declared.event.Hold.{Hold}
use Rattle.sv_kept.specs.declared.member.Member.{Member}
use Rattle.sv_kept.specs.Member.{waiting_at}
use Rattle.sv_rules.specs.Entries.{Entries, next_place, has_left, is_leave, kind_of, is_held}
use Rattle.sv_rules.specs.Journal.{journal_of}
use Rattle.sv_rules.specs.Legal.{IsLegal, is_user}
use Rattle.sv_rules.specs.Outcome.{outcome}
use Rattle.sv_rules.specs.Refused.{awaited, waits}
use Rattle.aux_parties.specs.Auxiliaries.{is_auxiliary}
use Rattle.sv_story_laws.specs.StepLaws.{IsPresent}
use Rattle.sv_story_laws.proofs.AnswerLemmas.{holds_are_given_or_given_up}
use Rattle.sv_story_laws.proofs.AuxiliaryLemmas.{auxiliaries_are_never_refused}
use Rattle.sv_story_laws.proofs.WaitLemmas.{leave-is, only_users_leave}
use Rattle.sv_core.proofs.People.{people_are}
use Rattle.sv_core.specs.Core.{ArePeople}

-- a member that is found is that of its user, and where none is found there is no such user
pub member_is : (b : Bool) (m got : Member) → (if b then Some m else None) ≡ Some got → got ≡ m
member_is true m got h = sym (same_Some m got h)
member_is false m got h = absurd (none-some got h)

pub no_member : (b : Bool) (m : Member) → (if b then Some m else None) ≡ None → b ≡ false
no_member true m h = absurd (none-some m (sym h))
no_member false m h = refl

-- whoever is no user has not left
pub strangers_do_not_leave : (users : List ℕ) (journal : Entries) → IsLegal users journal → (party : ℕ) → is_user users party ≡ false → has_left journal party ≡ false
strangers_do_not_leave users [] legal party stranger = refl
strangers_do_not_leave users (e ∷ journal) legal party stranger =
    or_from (eqb e.party party && is_leave e.act) (has_left journal party) (by (eqb e.party party) (is_leave e.act) refl refl) (strangers_do_not_leave users journal legal.1 party stranger)
  where
    by : (own leaves : Bool) → eqb e.party party ≡ own → is_leave e.act ≡ leaves → (eqb e.party party && is_leave e.act) ≡ false
    by false leaves is _ = ap (λ (b : Bool). b && is_leave e.act) is
    by true false is lasts = and_right (eqb e.party party) (is_leave e.act) lasts
    by true true is leaves =
        absurd (both_ways (is_user users party) stranger (ap (is_user users) (sym (eqb-true e.party party is)) ∙ only_users_leave users journal e legal (leave-is e.act leaves)))

held-is : (given : PlainAnswer) → is_held (kind_of given) ≡ true → (hold : Hold) × (given ≡ held hold)
held-is (held hold) h = (hold, refl)
held-is _ h = absurd (let no : false ≡ true = h in cc)

-- an entry of an auxiliary is not held
unheld : (users : List ℕ) (journal : Entries) (e : PlainEntry) → IsLegal users (e ∷ journal) → is_auxiliary e.party ≡ true → (b : Bool) → is_held (kind_of e.answer) ≡ b → b ≡ false
unheld users journal e legal aux false h = refl
unheld users journal e legal aux true h =
    let given = held-is e.answer h in
    let refuses = ((holds_are_given_or_given_up users journal e legal).held_now given.0).0 given.1 in
    absurd (none-some given.0 (sym (auxiliaries_are_never_refused users journal e legal aux) ∙ refuses.0))

-- nor does it wait
pub strangers_do_not_wait : (users : List ℕ) (journal : Entries) → IsLegal users journal → (party : ℕ) → is_user users party ≡ false → waiting_at journal party ≡ None
strangers_do_not_wait users [] legal party stranger = refl
strangers_do_not_wait users (e ∷ journal) legal party stranger = by (strangers_do_not_wait users journal legal.1 party stranger) (eqb e.party party) refl
  where
    here : Option ℕ
    here = if is_held (kind_of e.answer) then Some (next_place journal) else None

    of_party : e.party ≡ party → (is_user users e.party ≡ true) ⊎ (is_auxiliary e.party ≡ true) → is_auxiliary e.party ≡ true
    of_party own (inl user) = absurd (both_ways (is_user users party) stranger (ap (is_user users) (sym own) ∙ user))
    of_party own (inr aux) = aux

    by : waiting_at journal party ≡ None → (b : Bool) → eqb e.party party ≡ b → waiting_at (e ∷ journal) party ≡ None
    by before false is = ap (λ (b : Bool). if b then here else waiting_at journal party) is ∙ before
    by before true is =
        let aux = of_party (eqb-true e.party party is) (or_cases (is_user users e.party) (is_auxiliary e.party) legal.0.party) in
        ap (λ (b : Bool). if b then here else waiting_at journal party) is
        ∙ ap (λ (b : Bool). if b then Some (next_place journal) else None) (unheld users journal e legal aux (is_held (kind_of e.answer)) refl)

-- nor does a party that has left
pub leavers_do_not_wait : (users : List ℕ) (journal : Entries) → IsLegal users journal → (party : ℕ) → has_left journal party ≡ true → waiting_at journal party ≡ None
leavers_do_not_wait users [] legal party left = refl
leavers_do_not_wait users (e ∷ journal) legal party left = by (leavers_do_not_wait users journal legal.1 party) (eqb e.party party) refl
  where
    here : Option ℕ
    here = if is_held (kind_of e.answer) then Some (next_place journal) else None

    -- an entry of the party itself is the leave
    leaves : e.party ≡ party → is_leave e.act ≡ true
    leaves own = elim (or_cases (eqb e.party party && is_leave e.act) (has_left journal party) left) [
      | inl now ↦ and_second (eqb e.party party) (is_leave e.act) now
      | inr before ↦ absurd (both_ways (has_left journal party) (ap (has_left journal) (sym own) ∙ not-true (has_left journal e.party) legal.0.present) before)
    ]
      where
        and_second : (a b : Bool) → (a && b) ≡ true → b ≡ true
        and_second true b h = h
        and_second false b h = cc

    by : (has_left journal party ≡ true → waiting_at journal party ≡ None) → (b : Bool) → eqb e.party party ≡ b → waiting_at (e ∷ journal) party ≡ None
    by before false is =
        ap (λ (b : Bool). if b then here else waiting_at journal party) is
        ∙ before (ap (λ (b : Bool). (b && is_leave e.act) || has_left journal party) (sym is) ∙ left)
    by before true is =
        let act : e.act ≡ Leave = leave-is e.act (leaves (eqb-true e.party party is)) in
        ap (λ (b : Bool). if b then here else waiting_at journal party) is
        ∙ ap (λ (given : PlainAnswer). if is_held (kind_of given) then Some (next_place journal) else None) (legal.0.answer ∙ ap (λ (a : Act). (outcome journal e.party a).answer) act)

-- a party waits where it has a place of waiting
pub waiting_is : (journal : Entries) (party : ℕ) → is_some (waiting_at journal party) ≡ waits journal party
waiting_is [] party = refl
waiting_is (e ∷ journal) party = by (waiting_is journal party) (eqb e.party party) refl
  where
    both : (b : Bool) → is_some (if b then Some (next_place journal) else None) ≡ is_some (if b then Some e.act else None)
    both true = refl
    both false = refl

    by : is_some (waiting_at journal party) ≡ waits journal party → (b : Bool) → eqb e.party party ≡ b → is_some (waiting_at (e ∷ journal) party) ≡ waits (e ∷ journal) party
    by before true is = rw is (both (is_held (kind_of e.answer)))
    by before false is = rw is before

-- and where it has none, it waits for nothing
none_there : (o : Option Act) → is_some o ≡ false → o ≡ None
none_there None h = refl
none_there (Some act) h = absurd (let no : true ≡ false = h in cc)

pub waits_for_none : (journal : Entries) (party : ℕ) → waiting_at journal party ≡ None → awaited journal party ≡ None
waits_for_none journal party none = none_there (awaited journal party) (sym (waiting_is journal party) ∙ ap (λ (o : Option ℕ). is_some o) none)

-- the entry there has the act that the party waits for
pub waits_there : (journal : Entries) (party place : ℕ) → waiting_at journal party ≡ Some place →
    (1 ≤ place) × (place ≤ length journal) × ((d : PlainEntry) → awaited journal party ≡ Some (get_or journal (length journal - place) d).act)
waits_there [] party place h = absurd (none-some place h)
waits_there (e ∷ journal) party place h = elim (cases_Bool (eqb e.party party)) [
  | inl own ↦
      let parts = cond_some (is_held (kind_of e.answer)) (next_place journal) place (rw own at h) in
      let first : length (e ∷ journal) - place ≡ 0 = omega (arith, parts.1) in
      (omega (arith, parts.1), omega (arith, parts.1), λ d. rw own (rw parts.0 (ap (λ n. Some (get_or (e ∷ journal) n d).act) (sym first))))
  | inr other ↦
      let w = waits_there journal party place (rw other at h) in
      let next : length (e ∷ journal) - place ≡ suc (length journal - place) = omega (arith, w.0, w.1) in
      (w.0, omega (arith, w.1), λ d. rw other (w.2 d ∙ ap (λ n. Some (get_or (e ∷ journal) n d).act) (sym next)))
]

-- the same of the entries with the oldest first
pub entry_awaited : (entries : List Entry) (party place : ℕ) → waiting_at (journal_of entries) party ≡ Some place → (r : Entry) → r ≡ get_or entries (place - 1) r →
    Some r.act ≡ awaited (journal_of entries) party
entry_awaited entries party place h r is =
    sym (w.2 (plain_entry r) ∙ ap (λ (x : PlainEntry). Some x.act) (get_or-reverse plain k (plain_entry r) short ∙ ap (λ n. get_or plain n (plain_entry r)) at ∙ there ∙ ap plain_entry (sym is)))
  where
    plain : List PlainEntry
    plain = map plain_entry entries

    w : (1 ≤ place) × (place ≤ length (journal_of entries)) × ((d : PlainEntry) → awaited (journal_of entries) party ≡ Some (get_or (journal_of entries) (length (journal_of entries) - place) d).act)
    w = waits_there (journal_of entries) party place h

    k : ℕ
    k = length (journal_of entries) - place

    long : length (journal_of entries) ≡ length plain
    long = length-reverse plain

    short : k < length plain
    short = omega (arith, long, w.0, w.1)

    at : length plain - 1 - k ≡ place - 1
    at = omega (arith, long, w.0, w.1)

    there : get_or plain (place - 1) (plain_entry r) ≡ plain_entry (get_or entries (place - 1) r)
    there = get_or-map plain_entry entries (place - 1) r (plain_entry r) (omega (arith, long, w.0, w.1, length-map entries plain_entry))

-- the place of waiting is that of an entry
pub waits_within : (entries : List Entry) (party place : ℕ) → waiting_at (journal_of entries) party ≡ Some place → (1 ≤ place) × (place ≤ length entries)
waits_within entries party place h =
    let w = waits_there (journal_of entries) party place h in
    let plain : List PlainEntry = map plain_entry entries in
    (w.0, omega (arith, w.1, length-reverse plain, length-map entries plain_entry))

-- whoever waits is a user that has not left
pub waiters_are_present : (users : List ℕ) (journal : Entries) → IsLegal users journal → ArePeople users → (party : ℕ) → waits journal party ≡ true → IsPresent users journal party
waiters_are_present users journal legal people party waiting = record { user = user; person = people_are users people party user; present = present (has_left journal party) refl }
  where
    some : is_some (waiting_at journal party) ≡ true
    some = waiting_is journal party ∙ waiting

    none : waiting_at journal party ≡ None → ⊥
    none h = let no : false ≡ true = ap (λ (o : Option ℕ). is_some o) (sym h) ∙ some in cc

    user : is_user users party ≡ true
    user = elim (cases_Bool (is_user users party)) [
      | inl is ↦ is
      | inr stranger ↦ absurd (none (strangers_do_not_wait users journal legal party stranger))
    ]

    present : (b : Bool) → has_left journal party ≡ b → not (has_left journal party) ≡ true
    present false stays = ap not stays
    present true left = absurd (none (leavers_do_not_wait users journal legal party left))

-- nobody waits for a leave: it is done at once
pub no_wait_to_leave : (users : List ℕ) (journal : Entries) → IsLegal users journal → (party : ℕ) (act : Act) → awaited journal party ≡ Some act → is_leave act ≡ true → ⊥
no_wait_to_leave users [] legal party act h leaves = none-some act h
no_wait_to_leave users (e ∷ journal) legal party act h leaves = elim (cases_Bool (eqb e.party party)) [
  | inl own ↦
      let parts = cond_some (is_held (kind_of e.answer)) e.act act (rw own at h) in
      let is : e.act ≡ Leave = leave-is e.act (ap is_leave parts.1 ∙ leaves) in
      let done : is_held (kind_of e.answer) ≡ false = ap (λ (given : PlainAnswer). is_held (kind_of given)) (legal.0.answer ∙ ap (λ (a : Act). (outcome journal e.party a).answer) is) in
      both_ways (is_held (kind_of e.answer)) done parts.0
  | inr other ↦ no_wait_to_leave users journal legal.1 party act (rw other at h) leaves
]
