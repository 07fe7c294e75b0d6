-- The work of an auxiliary, and what questions tell.
use Rattle.std.proofs.Common.{◌≡◌, refl, sym, ap, ◌∙◌, subst, ℕ, ◌+◌, ◌<◌, Bool, true, false, ◌&&◌, not, eqb, ltb, List, [], ◌∷◌, ◌++◌, length, map, Option, Some, None, ◌⊎◌, inl, inr, arith}
use Rattle.std.specs.Prelude.{◌↔◌, Contains, All, IsTrue, is_some, filter, find}
use Rattle.std.specs.List.{list_any}
use Rattle.std.specs.Option.{option_map_or}
use Rattle.std.proofs.lemmas.Bool.{cases_Bool, and_parts, and_from, or_parts, or_from, not-true, not_from_false, both_ways, eq-eqb, eqb-true, eqb-false, lt-ltb, le-ltb, ltb-true, ltb-false}
use Rattle.std.proofs.lemmas.List.{length-append}
use Rattle.std.proofs.lemmas.List.Elements.{All-nil, All-cons, All-head, All-tail}
use Rattle.apl_arrays.specs.Ascending.{Ascend}
use Rattle.sv_access.specs.declared.control.Control.{Control}
use Rattle.sv_events.specs.Entry.{PlainEntry}
use Rattle.sv_events.specs.declared.work.Work.TheVariants as work
use Rattle.sv_rules.specs.declared.standing.Standing.{Standing}
use Rattle.sv_rules.specs.declared.coupling.Coupling.{Coupling}
use Rattle.sv_rules.specs.Control.{control_on}
use Rattle.sv_rules.specs.Coupling.{couplings, coupling_now, is_coupled, open_to}
use Rattle.sv_rules.specs.Entries.{Entries, since, is_full}
use Rattle.sv_rules.specs.Questions.{with_number, ascending}
use Rattle.sv_rules.specs.Standing.{standing}
use Rattle.sv_rules.specs.Work.{first_open, first_coupled, lacks_control, owes_reply, tries, gets_value, work_of}
use Rattle.sv_offer_laws.proofs.Members.{Contains-head, Contains-behind, Contains-cons_cases, find_passed}
use Rattle.sv_offer_laws.proofs.PlaceLemmas.{places_ascend, same_by_place}
use Rattle.sv_offer_laws.proofs.CouplingLemmas.{found_first, none_is_taken_of_none}
use Rattle.sv_story_laws.specs.WorkLaws.{IsLowest, IsOwnOpen, IsOwnCoupled, TellsParties}

-- what is found in what a filter leaves
pub find-of_filter : {X : Type 0} (p q : X → Bool) (xs : List X) → find p (filter q xs) ≡ find (λ x. q x && p x) xs
find-of_filter p q [] = refl
find-of_filter p q (x ∷ xs) = elim (cases_Bool (q x)) [
  | inl kept ↦ elim (cases_Bool (p x)) [ inl here ↦ rw (kept, here) refl | inr fails ↦ rw (kept, fails) (find-of_filter p q xs) ]
  | inr dropped ↦ rw dropped (find-of_filter p q xs)
]

-- the first standing offer that passes is the one of the lowest place
pub first_is_lowest : (p : Standing → Bool) (journal : Entries) (offer : Standing) → (find p (standing journal) ≡ Some offer) ↔ IsLowest (standing journal) (λ o. p o ≡ true) offer
first_is_lowest p journal offer = (there, λ lowest. back lowest (find p (standing journal)) refl)
  where
    there : find p (standing journal) ≡ Some offer → IsLowest (standing journal) (λ o. p o ≡ true) offer
    there h =
        let found = find_passed p (standing journal) offer h in
        record {
          among = found.1;
          here = found.0;
          lowest = λ other has passes. found_first p (standing journal) offer other (places_ascend journal) h has passes;
        }

    back : IsLowest (standing journal) (λ o. p o ≡ true) offer → (f : Option Standing) → find p (standing journal) ≡ f → f ≡ Some offer
    back lowest None none = absurd (none_is_taken_of_none p (standing journal) offer none lowest.among lowest.here)
    back lowest (Some other) is =
        let found = find_passed p (standing journal) other is in
        let not_above = lowest.lowest other found.1 found.0 in
        let not_below = found_first p (standing journal) other offer (places_ascend journal) is lowest.among lowest.here in
        ap Some (same_by_place (standing journal) other offer (places_ascend journal) found.1 lowest.among (omega arith))

-- the same by another way to say what passes
pub lowest_by : (offers : List Standing) (P Q : Standing → Type 0) (offer : Standing) → ((o : Standing) → P o → Q o) → ((o : Standing) → Q o → P o) → IsLowest offers P offer → IsLowest offers Q offer
lowest_by offers P Q offer to from lowest = record {
  among = lowest.among;
  here = to offer lowest.here;
  lowest = λ other has here. lowest.lowest other has (from other here);
}

pub first_open_is_lowest : (journal : Entries) (party : ℕ) (offer : Standing) → (first_open journal party ≡ Some offer) ↔ IsLowest (standing journal) (IsOwnOpen journal party) offer
first_open_is_lowest journal party offer = (
  (λ h. lowest_by (standing journal) (λ o. passes o ≡ true) (IsOwnOpen journal party) offer to from ((first_is_lowest passes journal offer).0 (sym (find-of_filter free own (standing journal)) ∙ h))),
  (λ lowest. find-of_filter free own (standing journal) ∙ (first_is_lowest passes journal offer).1 (lowest_by (standing journal) (IsOwnOpen journal party) (λ o. passes o ≡ true) offer from to lowest)),
)
  where
    own : Standing → Bool
    own o = eqb o.party party

    free : Standing → Bool
    free o = not (is_coupled (couplings journal) o.place)

    passes : Standing → Bool
    passes o = own o && free o

    to : (o : Standing) → passes o ≡ true → IsOwnOpen journal party o
    to o h = let parts = and_parts (own o) (free o) h in record { own = eqb-true o.party party parts.0; open_still = parts.1 }

    from : (o : Standing) → IsOwnOpen journal party o → passes o ≡ true
    from o is = and_from (own o) (free o) (eq-eqb o.party party is.own) is.open_still

pub first_coupled_is_lowest : (journal : Entries) (holds : Standing → Coupling → Bool) (party : ℕ) (offer : Standing) →
    (first_coupled journal holds party ≡ Some offer) ↔ IsLowest (standing journal) (IsOwnCoupled journal party (λ offer coupling. IsTrue (holds offer coupling))) offer
first_coupled_is_lowest journal holds party offer = (
  (λ h. lowest_by (standing journal) (λ o. passes o ≡ true) IsSo offer to from ((first_is_lowest passes journal offer).0 (sym (find-of_filter so own (standing journal)) ∙ h))),
  (λ lowest. find-of_filter so own (standing journal) ∙ (first_is_lowest passes journal offer).1 (lowest_by (standing journal) IsSo (λ o. passes o ≡ true) offer from to lowest)),
)
  where
    IsSo : Standing → Type 0
    IsSo = IsOwnCoupled journal party (λ offer coupling. IsTrue (holds offer coupling))

    own : Standing → Bool
    own o = eqb o.party party

    so : Standing → Bool
    so o = option_map_or (holds o) (coupling_now journal o.place) false

    passes : Standing → Bool
    passes o = own o && so o

    to : (o : Standing) → passes o ≡ true → IsSo o
    to o h = let parts = and_parts (own o) (so o) h in by (eqb-true o.party party parts.0) (coupling_now journal o.place) refl parts.1
      where
        by : o.party ≡ party → (c : Option Coupling) → coupling_now journal o.place ≡ c → option_map_or (holds o) c false ≡ true → IsSo o
        by mine None is k = absurd (let no : false ≡ true = k in cc)
        by mine (Some c) is k = record { own = mine; coupling = c; found = is; here = k }

    from : (o : Standing) → IsSo o → passes o ≡ true
    from o is =
        and_from (own o) (so o) (eq-eqb o.party party is.own) (ap (λ (c : Option Coupling). option_map_or (holds o) c false) is.found ∙ is.here)

-- no control is among these exactly where none sets one
pub control_is_lacking : (journal : Entries) (offer : Standing) (coupling : Coupling) → IsTrue (lacks_control journal offer coupling) ↔ All (λ e. control_on offer e ≡ None) (since coupling.at journal)
control_is_lacking journal offer coupling = (
  (λ h. there (since coupling.at journal) (not-true (list_any (λ e. is_some (control_on offer e)) (since coupling.at journal)) h)),
  (λ h. not_from_false _ (back (since coupling.at journal) h)),
)
  where
    P : PlainEntry → Type 0
    P e = control_on offer e ≡ None

    none : (c : Option Control) → is_some c ≡ false → c ≡ None
    none None h = refl
    none (Some c) h = cc

    there : (entries : Entries) → list_any (λ e. is_some (control_on offer e)) entries ≡ false → All P entries
    there [] h = All-nil P
    there (e ∷ entries) h =
        let parts = or_parts (is_some (control_on offer e)) (list_any (λ f. is_some (control_on offer f)) entries) h in All-cons P e entries (none (control_on offer e) parts.0) (there entries parts.1)

    back : (entries : Entries) → All P entries → list_any (λ e. is_some (control_on offer e)) entries ≡ false
    back [] h = refl
    back (e ∷ entries) h = or_from _ _ (ap is_some (All-head P e entries h)) (back entries (All-tail P e entries h))

-- the newest entry that tries got a value
abbrev LastTryGets : Standing → Entries → Type 0
LastTryGets offer entries =
    (before : Entries) × (e : PlainEntry) × (later : Entries) × (entries ≡ later ++ e ∷ before) × IsTrue (tries offer e)
    × IsTrue (gets_value offer e) × All (λ after. ¬ IsTrue (tries offer after)) later

pub replies_are_owed_to_uses : (journal : Entries) (offer : Standing) (coupling : Coupling) → IsTrue (owes_reply journal offer coupling) ↔ LastTryGets offer (since coupling.at journal)
replies_are_owed_to_uses journal offer coupling = (there (since coupling.at journal), λ w. back (since coupling.at journal) w)
  where
    P : PlainEntry → Type 0
    P after = ¬ IsTrue (tries offer after)

    there : (entries : Entries) → option_map_or (gets_value offer) (find (tries offer) entries) false ≡ true → LastTryGets offer entries
    there [] h = cc
    there (e ∷ entries) h = elim (cases_Bool (tries offer e)) [
      | inl tried ↦ (entries, e, [], refl, tried, (rw tried at h), All-nil P)
      | inr not_tried ↦
          let w = there entries (rw not_tried at h) in
          (w.0, w.1, e ∷ w.2, ap (λ (rest : Entries). e ∷ rest) w.3, w.4, w.5, All-cons P e w.2 (λ tried. both_ways (tries offer e) not_tried tried) w.6)
    ]

    at : (later before : Entries) (e : PlainEntry) → tries offer e ≡ true → gets_value offer e ≡ true → All P later → option_map_or (gets_value offer) (find (tries offer) (later ++ e ∷ before)) false ≡ true
    at [] before e tried gets none = rw tried gets
    at (l ∷ later) before e tried gets none = elim (cases_Bool (tries offer l)) [
      | inl also ↦ absurd (All-head P l later none also)
      | inr not_tried ↦ rw not_tried (at later before e tried gets (All-tail P l later none))
    ]

    back : (entries : Entries) → LastTryGets offer entries → option_map_or (gets_value offer) (find (tries offer) entries) false ≡ true
    back entries w = ap (λ (es : Entries). option_map_or (gets_value offer) (find (tries offer) es) false) w.3 ∙ at w.2 w.0 w.1 w.4 w.5 w.6

-- the entries that follow a place are the newest
pub since_are_the_newest : (before later : Entries) → since (length before) (later ++ before) ≡ later
since_are_the_newest [] [] = refl
since_are_the_newest (b ∷ before) [] =
    let not_after : ltb (length (b ∷ before)) (length before + 1) ≡ false = le-ltb _ _ (omega arith) in rw not_after refl
since_are_the_newest before (e ∷ later) =
    let after : ltb (length before) (length (later ++ before) + 1) ≡ true = lt-ltb _ _ (omega (arith, length-append later before)) in
    rw after (ap (λ (rest : Entries). e ∷ rest) (since_are_the_newest before later))

pub full_journals_leave_no_work : (journal : Entries) (party : ℕ) → IsTrue (is_full journal) → work_of journal party ≡ work.Idle
full_journals_leave_no_work journal party full = rw full refl

-- a number among others is in its place
ascend_behind : (low new : ℕ) (numbers : List ℕ) → low < new → Ascend (low ∷ numbers) → Ascend (low ∷ with_number new numbers)
ascend_behind low new [] less h = (less, tt)
ascend_behind low new (number ∷ numbers) less h = elim (cases_Bool (ltb new number)) [
  | inl below ↦ rw below (less, (ltb-true new number below, h.1))
  | inr not_below ↦ elim (cases_Bool (eqb new number)) [
    | inl same ↦ rw (not_below, same) h
    | inr other ↦ rw (not_below, other) (h.0, ascend_behind number new numbers (omega (arith, ltb-false new number not_below, eqb-false new number other)) h.1)
  ]
]

ascend_with : (new : ℕ) (numbers : List ℕ) → Ascend numbers → Ascend (with_number new numbers)
ascend_with new [] h = tt
ascend_with new (number ∷ numbers) h = elim (cases_Bool (ltb new number)) [
  | inl below ↦ rw below (ltb-true new number below, h)
  | inr not_below ↦ elim (cases_Bool (eqb new number)) [
    | inl same ↦ rw (not_below, same) h
    | inr other ↦ rw (not_below, other) (ascend_behind number new numbers (omega (arith, ltb-false new number not_below, eqb-false new number other)) h)
  ]
]

ascending_ascend : (numbers : List ℕ) → Ascend (ascending numbers)
ascending_ascend [] = tt
ascending_ascend (number ∷ numbers) = ascend_with number (ascending numbers) (ascending_ascend numbers)

-- it is there, and so are the others
in_with : (new : ℕ) (numbers : List ℕ) (x : ℕ) → (new ≡ x) ⊎ Contains numbers x → Contains (with_number new numbers) x
in_with new [] x (inl same) = subst (Contains (new ∷ [])) same (Contains-head new [])
in_with new [] x (inr h) = absurd (omega (arith, h.1))
in_with new (number ∷ numbers) x h = elim (cases_Bool (ltb new number)) [
  | inl below ↦ rw below (front h)
  | inr not_below ↦ elim (cases_Bool (eqb new number)) [
    | inl same ↦ rw (not_below, same) (among (eqb-true new number same) h)
    | inr other ↦ rw (not_below, other) (behind (in_with new numbers x) h)
  ]
]
  where
    front : (new ≡ x) ⊎ Contains (number ∷ numbers) x → Contains (new ∷ number ∷ numbers) x
    front (inl same) = subst (Contains (new ∷ number ∷ numbers)) same (Contains-head new (number ∷ numbers))
    front (inr there) = Contains-behind new (number ∷ numbers) x there

    among : new ≡ number → (new ≡ x) ⊎ Contains (number ∷ numbers) x → Contains (number ∷ numbers) x
    among is (inl same) = subst (Contains (number ∷ numbers)) (sym is ∙ same) (Contains-head number numbers)
    among is (inr there) = there

    behind : ((new ≡ x) ⊎ Contains numbers x → Contains (with_number new numbers) x) → (new ≡ x) ⊎ Contains (number ∷ numbers) x → Contains (number ∷ with_number new numbers) x
    behind rest (inl same) = Contains-behind number (with_number new numbers) x (rest (inl same))
    behind rest (inr there) = elim (Contains-cons_cases number numbers x there) [
      | inl first ↦ subst (Contains (number ∷ with_number new numbers)) first (Contains-head number (with_number new numbers))
      | inr later ↦ Contains-behind number (with_number new numbers) x (rest (inr later))
    ]

-- and nothing else is
has_with : (new : ℕ) (numbers : List ℕ) (x : ℕ) → Contains (with_number new numbers) x → (new ≡ x) ⊎ Contains numbers x
has_with new [] x h = Contains-cons_cases new [] x h
has_with new (number ∷ numbers) x h = elim (cases_Bool (ltb new number)) [
  | inl below ↦ let at : Contains (new ∷ number ∷ numbers) x = rw below at h in Contains-cons_cases new (number ∷ numbers) x at
  | inr not_below ↦ elim (cases_Bool (eqb new number)) [
    | inl same ↦ inr (rw same at (rw not_below at h))
    | inr other ↦
        let at : Contains (number ∷ with_number new numbers) x = rw other at (rw not_below at h) in
        elim (Contains-cons_cases number (with_number new numbers) x at) [
          | inl first ↦ inr (subst (Contains (number ∷ numbers)) first (Contains-head number numbers))
          | inr later ↦ elim (has_with new numbers x later) [ inl is ↦ inl is | inr there ↦ inr (Contains-behind number numbers x there) ]
        ]
  ]
]

in_ascending : (numbers : List ℕ) (x : ℕ) → Contains numbers x → Contains (ascending numbers) x
in_ascending [] x h = absurd (omega (arith, h.1))
in_ascending (number ∷ numbers) x h = elim (Contains-cons_cases number numbers x h) [
  | inl first ↦ in_with number (ascending numbers) x (inl first)
  | inr later ↦ in_with number (ascending numbers) x (inr (in_ascending numbers x later))
]

has_ascending : (numbers : List ℕ) (x : ℕ) → Contains (ascending numbers) x → Contains numbers x
has_ascending [] x h = absurd (omega (arith, h.1))
has_ascending (number ∷ numbers) x h = elim (has_with number (ascending numbers) x h) [
  | inl first ↦ subst (Contains (number ∷ numbers)) first (Contains-head number numbers)
  | inr later ↦ Contains-behind number numbers x (has_ascending numbers x later)
]

-- the parties of some offers
in_parties : (offers : List Standing) (offer : Standing) → Contains offers offer → Contains (map (λ o. o.party) offers) offer.party
in_parties [] offer h = absurd (omega (arith, h.1))
in_parties (o ∷ offers) offer h = elim (Contains-cons_cases o offers offer h) [
  | inl first ↦ subst (λ (x : Standing). Contains (map (λ y. y.party) (o ∷ offers)) x.party) first (Contains-head o.party (map (λ y. y.party) offers))
  | inr later ↦ Contains-behind o.party (map (λ y. y.party) offers) offer.party (in_parties offers offer later)
]

has_parties : (offers : List Standing) (from : ℕ) → Contains (map (λ o. o.party) offers) from → (offer : Standing) × Contains offers offer × (offer.party ≡ from)
has_parties [] from h = absurd (omega (arith, h.1))
has_parties (o ∷ offers) from h = elim (Contains-cons_cases o.party (map (λ y. y.party) offers) from h) [
  | inl first ↦ (o, Contains-head o offers, first)
  | inr later ↦ let w = has_parties offers from later in (w.0, Contains-behind o offers w.0 w.1, w.2)
]

pub questions_tell_parties : (journal : Entries) (party : ℕ) → TellsParties journal party
questions_tell_parties journal party = record {
  ascend = ascending_ascend (map (λ (o : Standing). o.party) (open_to journal party));
  those = λ from. (
    (λ h. has_parties (open_to journal party) from (has_ascending (map (λ (o : Standing). o.party) (open_to journal party)) from h)),
    (λ w. in_ascending (map (λ (o : Standing). o.party) (open_to journal party)) from
        (subst (Contains (map (λ (o : Standing). o.party) (open_to journal party))) w.2 (in_parties (open_to journal party) w.0 w.1))),
  );
}
