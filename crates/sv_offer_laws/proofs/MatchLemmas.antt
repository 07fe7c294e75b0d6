-- Offers that match, and the pairs that they make.
use Rattle.std.proofs.Common.{◌≡◌, refl, sym, ap, ◌∙◌, ℕ, ◌<◌, ◌≤◌, Bool, true, false, ◌&&◌, ◌||◌, not, eqb, List, Some, ◌⊎◌, inl, inr}
use Rattle.std.specs.Prelude.{Contains, AllPairs}
use Rattle.std.proofs.Math.Bool.{and_comm}
use Rattle.std.proofs.lemmas.Bool.{cases_lt, eqb-true, eq-eqb, and_parts, or_cases, lt-ltb, le-ltb, not-true}
use Rattle.std.proofs.lemmas.Cmp.{nat_eq_equiv, nat_list_eq_equiv}
use Rattle.sv_rules.specs.declared.standing.Standing.{Standing}
use Rattle.sv_rules.specs.declared.coupling.Made.{Made}
use Rattle.apl_arrays.specs.Name.{same_name}
use Rattle.sv_rules.specs.Standing.{is_match}
use Rattle.sv_rules.specs.Coupling.{has_place, is_coupled, is_open_match, open_match, pair_of}
use Rattle.sv_offer_laws.proofs.Members.{find_passed}
use Rattle.sv_offer_laws.proofs.PlaceLemmas.{ComesBefore, same_by_place}

-- three tests in another order, the last two exchanged
and_exchanged : (x q r : Bool) → (x && q && r) ≡ (x && r && q)
and_exchanged true q r = and_comm q r
and_exchanged false q r = refl

-- matching is mutual
pub is_match_comm : (one other : Standing) → is_match one other ≡ is_match other one
is_match_comm one other =
    let parties : eqb one.party other.party ≡ eqb other.party one.party = nat_eq_equiv.symm one.party other.party in
    let names : same_name one.surrogate other.surrogate ≡ same_name other.surrogate one.surrogate = nat_list_eq_equiv.symm one.surrogate other.surrogate in
    let first = not (eqb other.party one.party) && same_name other.surrogate one.surrogate in
    let to_other = eqb one.to other.party || eqb one.to 0 in
    let to_one = eqb other.to one.party || eqb other.to 0 in
    let both = and_comm (eqb one.to 0) (eqb other.to 0) in
    rw (parties, names, both) (ap (λ b. b && not (eqb other.to 0 && eqb one.to 0)) (and_exchanged first to_other to_one))

-- offers of one party do not match
pub match_apart : (one other : Standing) → is_match one other ≡ true → one.party ≡ other.party → ⊥
match_apart one other h same =
    let test : eqb one.party other.party ≡ true = eq-eqb one.party other.party same in
    let no : false ≡ true = rw test at h in cc

-- two offers that match have two places
pub match_places : (offers : List Standing) (one other : Standing) → AllPairs ComesBefore offers → Contains offers one → Contains offers other →
    is_match one other ≡ true → one.place ≡ other.place → ⊥
match_places offers one other ascend h k matching same =
    match_apart one other matching (ap (λ (o : Standing). o.party) (same_by_place offers one other ascend h k same))

-- the pair of two offers has their places, the lower one first
pub pair_of_cases : (one other : Standing) →
    ((one.place < other.place) × ((pair_of one other).a ≡ one.place) × ((pair_of one other).b ≡ other.place))
    ⊎ ((other.place ≤ one.place) × ((pair_of one other).a ≡ other.place) × ((pair_of one other).b ≡ one.place))
pair_of_cases one other = elim (cases_lt one.place other.place) [
  | inl lower ↦ let test = lt-ltb one.place other.place lower in inl (lower, rw test refl, rw test refl)
  | inr higher ↦ let test = le-ltb one.place other.place higher in inr (higher, rw test refl, rw test refl)
]

-- a place of the pair of two offers is that of one of them
pub has_place-pair_of : (place at : ℕ) (one other : Standing) → has_place place (record { pair = pair_of one other; at = at }) ≡ true →
    (one.place ≡ place) ⊎ (other.place ≡ place)
has_place-pair_of place at one other h =
    elim (or_cases (eqb (pair_of one other).a place) (eqb (pair_of one other).b place) h) [
      | inl low ↦ let here = eqb-true _ _ low in
          elim (pair_of_cases one other) [ inl c ↦ inl (sym c.1 ∙ here) | inr c ↦ inr (sym c.1 ∙ here) ]
      | inr high ↦ let here = eqb-true _ _ high in
          elim (pair_of_cases one other) [ inl c ↦ inr (sym c.2 ∙ here) | inr c ↦ inl (sym c.2 ∙ here) ]
    ]

-- an open match is open, matches, and is one of the offers
pub open_match_is : (offers : List Standing) (coupled : List Made) (offer match : Standing) → open_match offers coupled offer ≡ Some match →
    (is_coupled coupled match.place ≡ false) × (is_match offer match ≡ true) × Contains offers match
open_match_is offers coupled offer match h =
    let found = find_passed (is_open_match coupled offer) offers match h in
    let parts = and_parts _ _ found.0 in
    (not-true _ parts.0, parts.1, found.1)
