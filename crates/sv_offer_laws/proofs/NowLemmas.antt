-- The coupling of an offer, now and before the newest entry.
use Rattle.std.proofs.Common.{◌≡◌, refl, sym, ap, ◌∙◌, ℕ, ◌≤◌, Bool, true, false, cond, eqb, List, [], ◌∷◌, length, Option, Some, None, inl, inr, arith}
use Rattle.std.specs.Prelude.{Contains, find, count_by, is_some, option_and_then, option_map}
use Rattle.std.specs.List.{list_any}
use Rattle.std.proofs.lemmas.Bool.{and_from, eq-eqb, eqb-true, or_left, or_right, or_cases, both_ways}
use Rattle.std.proofs.lemmas.List.Sums.{sum_by-cons}
use Rattle.std.proofs.lemmas.List.Elements.{All-contains, Contains-append_cases}
use Rattle.sv_events.specs.Entry.{PlainEntry}
use Rattle.sv_rules.specs.declared.standing.Standing.{Standing}
use Rattle.sv_rules.specs.declared.coupling.Coupling.{Coupling}
use Rattle.sv_rules.specs.declared.coupling.Made.{Made}
use Rattle.sv_rules.specs.Entries.{Entries, next_place}
use Rattle.sv_rules.specs.Standing.{standing}
use Rattle.sv_rules.specs.Coupling.{made_in, stands_at, both_stand, couplings, has_place, is_coupled, offer_at, coupling_of, coupling_now}
use Rattle.sv_rules.specs.Legal.{IsLegal}
use Rattle.sv_offer_laws.specs.CouplingLaws.{IsCouplingOf}
use Rattle.sv_offer_laws.specs.LegalLaws.{HasMatchingOffers, IsInOrder, made_at}
use Rattle.sv_offer_laws.proofs.Members.{Contains-cons_cases, Contains-filter, find_passed, list_any_member}
use Rattle.sv_offer_laws.proofs.PlaceLemmas.{places_ascend, same_by_place}
use Rattle.sv_offer_laws.proofs.CouplingLemmas.{made_in-from_WasMade, WasMade-from_made_in, made_at_cases}
use Rattle.sv_offer_laws.proofs.LegalLemmas.{IsSound-from_legal, stood_before}
use Rattle.sv_offer_laws.proofs.MatchLemmas.{match_apart}
use Rattle.sv_offer_laws.proofs.LookupLemmas.{find_is, found_as_made, found_where_coupled}

-- where some passes at least one does
some_counted : {X : Type 0} (p : X → Bool) (xs : List X) → list_any p xs ≡ true → 1 ≤ count_by p xs
some_counted p [] h = cc
some_counted p (x ∷ xs) h =
    let count = sum_by-cons (λ y. cond {A = ℕ} (p y) 1 0) x xs in
    elim (or_cases (p x) (list_any p xs) h) [
      | inl here ↦ let one : cond {A = ℕ} (p x) 1 0 ≡ 1 = ap (λ b. cond {A = ℕ} b 1 0) here in omega (arith, count, one)
      | inr behind ↦ omega (arith, count, some_counted p xs behind)
    ]

-- where at most one passes, two that pass are one
only_one : {X : Type 0} (p : X → Bool) (xs : List X) (one other : X) → count_by p xs ≤ 1 → Contains xs one → p one ≡ true → Contains xs other → p other ≡ true → one ≡ other
only_one p [] one other few h passes k also = absurd (omega (arith, h.1))
only_one p (x ∷ xs) one other few h passes k also =
    let count = sum_by-cons (λ y. cond {A = ℕ} (p y) 1 0) x xs in
    elim (Contains-cons_cases x xs one h) [
      | inl first ↦
          let counted : cond {A = ℕ} (p x) 1 0 ≡ 1 = ap (λ b. cond {A = ℕ} b 1 0) (ap p first ∙ passes) in
          elim (Contains-cons_cases x xs other k) [
            | inl same ↦ sym first ∙ same
            | inr there ↦ absurd (omega (arith, count, counted, few, some_counted p xs (list_any_member p xs other also there)))
          ]
      | inr behind ↦ elim (Contains-cons_cases x xs other k) [
        | inl same ↦
            let counted : cond {A = ℕ} (p x) 1 0 ≡ 1 = ap (λ b. cond {A = ℕ} b 1 0) (ap p same ∙ also) in
            absurd (omega (arith, count, counted, few, some_counted p xs (list_any_member p xs one passes behind)))
        | inr there ↦ only_one p xs one other (omega (arith, count, few)) behind passes there also
      ]
    ]

-- what passes is found where it is the only one
find_only : {X : Type 0} (p : X → Bool) (xs : List X) (x : X) → ((y : X) → Contains xs y → p y ≡ true → y ≡ x) → Contains xs x → p x ≡ true → find p xs ≡ Some x
find_only {X} p xs x only h passes = found (find p xs) refl
  where
    found : (f : Option X) → find p xs ≡ f → f ≡ Some x
    found None none = absurd (both_ways (list_any p xs) (sym (find_is p xs) ∙ ap is_some none) (list_any_member p xs x passes h))
    found (Some y) is = let there = find_passed p xs y is in ap Some (only y there.1 there.0)

-- a coupling of the offer at a place is found there
pub made_is_found : (users : List ℕ) (journal : Entries) → IsLegal users journal → (place : ℕ) (made : Made) → Contains (couplings journal) made → has_place place made ≡ true →
    find (has_place place) (couplings journal) ≡ Some made
made_is_found users journal legal place made h here =
    find_only (has_place place) (couplings journal) made
    (λ other k also. only_one (has_place place) (couplings journal) other made ((IsSound-from_legal users journal legal).once place) k also h here) h here

-- a standing offer is found at its place
pub offer_is_found : (journal : Entries) (offer : Standing) → Contains (standing journal) offer → offer_at (standing journal) offer.place ≡ Some offer
offer_is_found journal offer h =
    find_only (λ (o : Standing). eqb o.place offer.place) (standing journal) offer
    (λ other k same. same_by_place (standing journal) other offer (places_ascend journal) k h (eqb-true other.place offer.place same)) h (eq-eqb offer.place offer.place refl)

-- what is a coupling is among the couplings
pub coupling_among : (journal : Entries) (place : ℕ) (coupling : Coupling) → IsCouplingOf journal place coupling →
    Contains (couplings journal) (record { pair = record { a = coupling.a.place; b = coupling.b.place }; at = coupling.at })
coupling_among journal place coupling is =
    let made : Made = record { pair = record { a = coupling.a.place; b = coupling.b.place }; at = coupling.at } in
    let at_a : stands_at (standing journal) coupling.a.place ≡ true =
    list_any_member (λ (o : Standing). eqb o.place coupling.a.place) (standing journal) coupling.a (eq-eqb coupling.a.place coupling.a.place refl) is.has_a in
    let at_b : stands_at (standing journal) coupling.b.place ≡ true =
    list_any_member (λ (o : Standing). eqb o.place coupling.b.place) (standing journal) coupling.b (eq-eqb coupling.b.place coupling.b.place refl) is.has_b in
    Contains-filter (λ (m : Made). both_stand (standing journal) m.pair) (made_in journal) made
    (and_from (stands_at (standing journal) coupling.a.place) (stands_at (standing journal) coupling.b.place) at_a at_b) (made_in-from_WasMade journal made is.made)

-- and is found at the places of its offers
pub coupling_is_found : (users : List ℕ) (journal : Entries) → IsLegal users journal → (place : ℕ) (coupling : Coupling) → IsCouplingOf journal place coupling → coupling_now journal place ≡ Some coupling
coupling_is_found users journal legal place coupling is =
    ap (λ (f : Option Made). option_and_then (coupling_of (standing journal)) f) (made_is_found users journal legal place made (coupling_among journal place coupling is) here)
    ∙ ap (λ (f : Option Standing). option_and_then (λ a. option_map (λ b. let c : Coupling = record { a = a; b = b; at = coupling.at } in c) (offer_at (standing journal) coupling.b.place)) f) (offer_is_found journal coupling.a is.has_a)
    ∙ ap (λ (f : Option Standing). option_map (λ b. let c : Coupling = record { a = coupling.a; b = b; at = coupling.at } in c) f) (offer_is_found journal coupling.b is.has_b)
  where
    made : Made
    made = record { pair = record { a = coupling.a.place; b = coupling.b.place }; at = coupling.at }

    here : has_place place made ≡ true
    here = elim is.here [
      | inl low ↦ or_left (eqb coupling.a.place place) (eqb coupling.b.place place) (eq-eqb coupling.a.place place low)
      | inr high ↦ or_right (eqb coupling.a.place place) (eqb coupling.b.place place) (eq-eqb coupling.b.place place high)
    ]

-- the two offers of a coupling are of different parties
pub partners_differ : (users : List ℕ) (journal : Entries) → IsLegal users journal → (place : ℕ) (coupling : Coupling) → IsCouplingOf journal place coupling → coupling.a.party ≡ coupling.b.party → ⊥
partners_differ users journal legal place coupling is same =
    let matches = All-contains (HasMatchingOffers (standing journal)) (couplings journal) _ (IsSound-from_legal users journal legal).matching (coupling_among journal place coupling is) in
    match_apart coupling.a coupling.b (matches coupling.a coupling.b is.has_a is.has_b refl refl) same

-- the coupling is at a place of the journal, and not before its offers
pub coupling_places : (users : List ℕ) (journal : Entries) → IsLegal users journal → (place : ℕ) (coupling : Coupling) → IsCouplingOf journal place coupling →
    (coupling.b.place ≤ coupling.at) × (coupling.at ≤ length journal)
coupling_places users journal legal place coupling is =
    let order = All-contains (IsInOrder (length journal)) (made_in journal) _ (IsSound-from_legal users journal legal).order (made_in-from_WasMade journal _ is.made) in
    (order.made_then, order.within)

-- a coupling that is older than the newest entry was there before it
pub coupling_was : (users : List ℕ) (e : PlainEntry) (journal : Entries) → IsLegal users (e ∷ journal) → (place : ℕ) (coupling : Coupling) →
    coupling_now (e ∷ journal) place ≡ Some coupling → coupling.at ≤ length journal → coupling_now journal place ≡ Some coupling
coupling_was users e journal legal place coupling now old =
    let is = found_as_made users (e ∷ journal) legal place coupling now in
    let order = coupling_places users (e ∷ journal) legal place coupling is in
    let made : Made = record { pair = record { a = coupling.a.place; b = coupling.b.place }; at = coupling.at } in
    let added = made_at (next_place journal) e.made in
    let was : Contains (made_in journal) made = elim (Contains-append_cases (made_in journal) added made (made_in-from_WasMade (e ∷ journal) made is.made)) [
      | inl before ↦ before
      | inr new ↦ absurd (let at = (made_at_cases (next_place journal) e.made made new).0 in omega arith)
    ] in
    coupling_is_found users journal legal.1 place coupling (record {
      has_a = stood_before e journal coupling.a (omega (arith, is.lower_first, order.0)) is.has_a;
      has_b = stood_before e journal coupling.b (omega (arith, order.0)) is.has_b;
      here = is.here;
      lower_first = is.lower_first;
      made = WasMade-from_made_in journal made was;
    })

-- an open offer has no coupling, and a coupled one has
pub none_now : (journal : Entries) (place : ℕ) → is_coupled (couplings journal) place ≡ false → coupling_now journal place ≡ None
none_now journal place free = none (coupling_now journal place) (found_where_coupled journal place ∙ free)
  where
    none : (c : Option Coupling) → is_some c ≡ false → c ≡ None
    none None h = refl
    none (Some c) h = cc
