-- Where a coupling is looked up, and which one it is.
use Rattle.std.proofs.Common.{◌≡◌, refl, sym, ap, ◌∙◌, subst, ℕ, ◌<◌, Bool, true, eqb, List, [], ◌∷◌, length, Option, Some, None, inl, inr, arith}
use Rattle.std.specs.Prelude.{Contains, find, is_some, option_and_then, option_map}
use Rattle.std.specs.List.{list_any}
use Rattle.std.proofs.lemmas.Bool.{cases_Bool, and_parts, or_cases, eqb-true}
use Rattle.std.proofs.lemmas.Option.{same_Some, none-some}
use Rattle.std.proofs.lemmas.List.Elements.{All-contains, filter_passes}
use Rattle.sv_rules.specs.declared.standing.Standing.{Standing}
use Rattle.sv_rules.specs.declared.coupling.Coupling.{Coupling}
use Rattle.sv_rules.specs.declared.coupling.Made.{Made}
use Rattle.sv_rules.specs.Entries.{Entries}
use Rattle.sv_rules.specs.Standing.{standing}
use Rattle.sv_rules.specs.Coupling.{made_in, stands_at, both_stand, couplings, has_place, is_coupled, offer_at, coupling_of, coupling_at}
use Rattle.sv_offer_laws.specs.CouplingLaws.{WasMade, IsCouplingOf}
use Rattle.sv_rules.specs.Legal.{IsLegal}
use Rattle.sv_offer_laws.specs.LegalLaws.{IsInOrder}
use Rattle.sv_offer_laws.proofs.Members.{Contains-from_filter, find_passed}
use Rattle.sv_offer_laws.proofs.CouplingLemmas.{WasMade-from_made_in}
use Rattle.sv_offer_laws.proofs.LegalLemmas.{IsSound-from_legal, order_of_couplings}

-- something is found where something passes
pub find_is : {X : Type 0} (p : X → Bool) (xs : List X) → is_some (find p xs) ≡ list_any p xs
find_is p [] = refl
find_is p (x ∷ xs) = elim (cases_Bool (p x)) [ inl passes ↦ rw passes refl | inr fails ↦ rw fails (find_is p xs) ]

-- a pair of offers that stand is a coupling
coupling_stands : (offers : List Standing) (made : Made) → both_stand offers made.pair ≡ true → is_some (coupling_of offers made) ≡ true
coupling_stands offers made h =
    let parts = and_parts (stands_at offers made.pair.a) (stands_at offers made.pair.b) h in
    both (offer_at offers made.pair.a) (offer_at offers made.pair.b) (find_is (λ o. eqb o.place made.pair.a) offers ∙ parts.0) (find_is (λ o. eqb o.place made.pair.b) offers ∙ parts.1)
  where
    join : Option Standing → Option Standing → Option Coupling
    join a b = option_and_then (λ one. option_map (λ other. let c : Coupling = record { a = one; b = other; at = made.at } in c) b) a

    both : (a b : Option Standing) → is_some a ≡ true → is_some b ≡ true → is_some (join a b) ≡ true
    both (Some a) (Some b) h k = refl
    both (Some a) None h k = cc
    both None b h k = cc

pub found_where_coupled : (journal : Entries) (place : ℕ) → is_some (coupling_at (standing journal) (couplings journal) place) ≡ is_coupled (couplings journal) place
found_where_coupled journal place = found (find (has_place place) (couplings journal)) refl ∙ find_is (has_place place) (couplings journal)
  where
    found : (f : Option Made) → find (has_place place) (couplings journal) ≡ f → is_some (option_and_then (coupling_of (standing journal)) f) ≡ is_some f
    found None is = refl
    found (Some made) is =
        coupling_stands (standing journal) made
        (All-contains (λ m. both_stand (standing journal) m.pair ≡ true) (couplings journal) made
        (filter_passes (λ (m : Made). both_stand (standing journal) m.pair) (made_in journal)) (find_passed (has_place place) (couplings journal) made is).1)

-- the coupling of two offers at the places of a pair
by_offers : (journal : Entries) (place : ℕ) (made : Made) (a b : Standing) → has_place place made ≡ true → WasMade journal made → made.pair.a < made.pair.b →
    Contains (standing journal) a → a.place ≡ made.pair.a → Contains (standing journal) b → b.place ≡ made.pair.b → IsCouplingOf journal place (record { a = a; b = b; at = made.at })
by_offers journal place made a b here was lower has_a at_a has_b at_b = record {
  has_a = has_a;
  has_b = has_b;
  here = elim (or_cases (eqb made.pair.a place) (eqb made.pair.b place) here) [
    | inl low ↦ inl (at_a ∙ eqb-true made.pair.a place low)
    | inr high ↦ inr (at_b ∙ eqb-true made.pair.b place high)
  ];
  lower_first = omega (arith, at_a, at_b, lower);
  made = subst (WasMade journal)
      (ap (λ n. let m : Made = record { pair = record { a = n; b = made.pair.b }; at = made.at } in m) (sym at_a)
      ∙ ap (λ n. let m : Made = record { pair = record { a = a.place; b = n }; at = made.at } in m) (sym at_b)) was;
}

pub found_as_made : (users : List ℕ) (journal : Entries) → IsLegal users journal → (place : ℕ) (coupling : Coupling) →
    coupling_at (standing journal) (couplings journal) place ≡ Some coupling → IsCouplingOf journal place coupling
found_as_made users journal legal place coupling h = found (find (has_place place) (couplings journal)) refl h
  where
    offers : List Standing
    offers = standing journal

    of_offers : (made : Made) → find (has_place place) (couplings journal) ≡ Some made → (a b : Option Standing) → offer_at offers made.pair.a ≡ a → offer_at offers made.pair.b ≡ b →
        option_and_then (λ one. option_map (λ other. let c : Coupling = record { a = one; b = other; at = made.at } in c) b) a ≡ Some coupling → IsCouplingOf journal place coupling
    of_offers made is None b found_a found_b k = absurd (none-some coupling k)
    of_offers made is (Some a) None found_a found_b k = absurd (none-some coupling k)
    of_offers made is (Some a) (Some b) found_a found_b k =
        let one = find_passed (λ (o : Standing). eqb o.place made.pair.a) offers a found_a in
        let other = find_passed (λ (o : Standing). eqb o.place made.pair.b) offers b found_b in
        let taken = find_passed (has_place place) (couplings journal) made is in
        let order = All-contains (IsInOrder (length journal)) (couplings journal) made (order_of_couplings journal (IsSound-from_legal users journal legal).order) taken.1 in
        subst (IsCouplingOf journal place) (same_Some _ coupling k)
        (by_offers journal place made a b taken.0
        (WasMade-from_made_in journal made (Contains-from_filter (λ (m : Made). both_stand offers m.pair) (made_in journal) made taken.1)) order.lower
        one.1 (eqb-true a.place made.pair.a one.0) other.1 (eqb-true b.place made.pair.b other.0))

    found : (f : Option Made) → find (has_place place) (couplings journal) ≡ f → option_and_then (coupling_of offers) f ≡ Some coupling → IsCouplingOf journal place coupling
    found None is k = absurd (none-some coupling k)
    found (Some made) is k = of_offers made is (offer_at offers made.pair.a) (offer_at offers made.pair.b) refl refl k
