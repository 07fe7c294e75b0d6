-- The pairs that were made, and the oldest open match.
use Rattle.std.proofs.Common.{◌≡◌, refl, sym, ap, ◌∙◌, subst, ℕ, suc, ◌≤◌, Bool, true, List, [], ◌∷◌, ◌++◌, Some, None, inl, inr, arith}
use Rattle.std.specs.Prelude.{Contains, AllPairs, find}
use Rattle.std.proofs.lemmas.Bool.{cases_Bool, both_ways}
use Rattle.std.proofs.lemmas.Option.{same_Some}
use Rattle.std.proofs.lemmas.List.Elements.{Contains-append_cases, Contains-append_left, Contains-append_right}
use Rattle.sv_events.specs.Entry.{PlainEntry}
use Rattle.sv_events.specs.declared.entry.Pair.{Pair}
use Rattle.sv_rules.specs.declared.standing.Standing.{Standing}
use Rattle.sv_rules.specs.declared.coupling.Made.{Made}
use Rattle.sv_rules.specs.Entries.{Entries, next_place}
use Rattle.sv_rules.specs.Standing.{standing}
use Rattle.sv_rules.specs.Coupling.{made_in, is_open_match, open_match}
use Rattle.sv_offer_laws.specs.CouplingLaws.{WasMade, IsOldestOpenMatch}
use Rattle.sv_offer_laws.specs.LegalLaws.{made_at}
use Rattle.sv_offer_laws.proofs.Members.{Contains-head, Contains-behind, Contains-cons_cases, find_passed}
use Rattle.sv_offer_laws.proofs.PlaceLemmas.{ComesBefore, places_ascend}

-- what is made at a place is a pair of the list, at this place
pub made_at_cases : (place : ℕ) (pairs : List Pair) (made : Made) → Contains (made_at place pairs) made → (made.at ≡ place) × Contains pairs made.pair
made_at_cases place [] made h = absurd (omega (arith, h.1))
made_at_cases place (pair ∷ pairs) made h = elim (Contains-cons_cases _ (made_at place pairs) made h) [
  | inl same ↦ (ap (λ (m : Made). m.at) (sym same), subst (λ p. Contains (pair ∷ pairs) p) (ap (λ (m : Made). m.pair) same) (Contains-head pair pairs))
  | inr there ↦ let rest = made_at_cases place pairs made there in (rest.0, Contains-behind pair pairs made.pair rest.1)
]

pub has_made_at : (pairs : List Pair) (made : Made) → Contains pairs made.pair → Contains (made_at made.at pairs) made
has_made_at [] made h = absurd (omega (arith, h.1))
has_made_at (pair ∷ pairs) made h = elim (Contains-cons_cases pair pairs made.pair h) [
  | inl same ↦ subst (λ p. Contains (made_at made.at (p ∷ pairs)) made) (sym same) (Contains-head made (made_at made.at pairs))
  | inr there ↦ Contains-behind _ (made_at made.at pairs) made (has_made_at pairs made there)
]

pub WasMade-from_made_in : (journal : Entries) (made : Made) → Contains (made_in journal) made → WasMade journal made
WasMade-from_made_in [] made h = absurd (omega (arith, h.1))
WasMade-from_made_in (e ∷ journal) made h =
    elim (Contains-append_cases (made_in journal) (made_at (next_place journal) e.made) made h) [
      | inl old ↦ let w = WasMade-from_made_in journal made old in (w.0, w.1, e ∷ w.2, ap (λ rest. e ∷ rest) w.3, w.4, w.5)
      | inr new ↦ let parts = made_at_cases (next_place journal) e.made made new in (journal, e, [], refl, parts.0, parts.1)
    ]

made_in-from_entry : (later : Entries) (e : PlainEntry) (before : Entries) (made : Made) → made.at ≡ next_place before → Contains e.made made.pair → Contains (made_in (later ++ e ∷ before)) made
made_in-from_entry [] e before made at h =
    Contains-append_right (made_in before) (made_at (next_place before) e.made) made (subst (λ n. Contains (made_at n e.made) made) at (has_made_at e.made made h))
made_in-from_entry (l ∷ later) e before made at h =
    let earlier = later ++ e ∷ before in
    Contains-append_left (made_in earlier) (made_at (next_place earlier) l.made) made (made_in-from_entry later e before made at h)

pub made_in-from_WasMade : (journal : Entries) (made : Made) → WasMade journal made → Contains (made_in journal) made
made_in-from_WasMade journal made w = subst (λ j. Contains (made_in j) made) (sym w.3) (made_in-from_entry w.2 w.1 w.0 made w.4 w.5)

-- what is found comes before all others that pass
pub found_first : (p : Standing → Bool) (offers : List Standing) (first other : Standing) → AllPairs ComesBefore offers → find p offers ≡ Some first →
    Contains offers other → p other ≡ true → first.place ≤ other.place
found_first p [] first other ascend found h passes = cc
found_first p (offer ∷ offers) first other ascend found h passes = elim (cases_Bool (p offer)) [
  | inl here ↦
      let same : offer ≡ first = same_Some offer first (rw here at found) in
      elim (Contains-cons_cases offer offers other h) [
        | inl also ↦ let at = ap (λ (o : Standing). o.place) (sym same ∙ also) in omega arith
        | inr behind ↦
            let below = rw (behind.2) at (ascend 0 (suc behind.0) other (omega arith) (omega (arith, behind.1))) in
            let at = ap (λ (o : Standing). o.place) same in omega arith
      ]
  | inr not_here ↦
      elim (Contains-cons_cases offer offers other h) [
        | inl also ↦ absurd (both_ways (p offer) not_here (ap p also ∙ passes))
        | inr behind ↦
            found_first p offers first other (λ i j d before within. ascend (suc i) (suc j) d (omega arith) (omega arith)) (rw not_here at found) behind passes
      ]
]

-- among offers that come by place, the open match that is found is the oldest
pub oldest_match : (offers : List Standing) (coupled : List Made) (offer match : Standing) → AllPairs ComesBefore offers → open_match offers coupled offer ≡ Some match → IsOldestOpenMatch offers coupled offer match
oldest_match offers coupled offer match ascend h =
    let found = find_passed (is_open_match coupled offer) offers match h in
    record {
      among = found.1;
      open_match = found.0;
      oldest = λ other has passes. found_first (is_open_match coupled offer) offers match other ascend h has passes;
    }

pub oldest_match_is_taken : (journal : Entries) (coupled : List Made) (offer match : Standing) → open_match (standing journal) coupled offer ≡ Some match →
    IsOldestOpenMatch (standing journal) coupled offer match
oldest_match_is_taken journal coupled offer match h = oldest_match (standing journal) coupled offer match (places_ascend journal) h

pub none_is_taken_of_none : (p : Standing → Bool) (offers : List Standing) (other : Standing) → find p offers ≡ None → Contains offers other → p other ≡ true → ⊥
none_is_taken_of_none p [] other none h passes = omega (arith, h.1)
none_is_taken_of_none p (offer ∷ offers) other none h passes = elim (cases_Bool (p offer)) [
  | inl here ↦ let no : Some offer ≡ None = rw here at none in cc
  | inr not_here ↦ elim (Contains-cons_cases offer offers other h) [
    | inl also ↦ both_ways (p offer) not_here (ap p also ∙ passes)
    | inr behind ↦ none_is_taken_of_none p offers other (rw not_here at none) behind passes
  ]
]
