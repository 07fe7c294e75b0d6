-- An offer's matches are among its candidates.
use Rattle.std.proofs.Common.{◌≡◌, refl, ap, ap₂, sym, ◌∙◌, Bool, true, false, not, ◌&&◌, ◌||◌, cond, eqb, List, Some}
use Rattle.std.proofs.lemmas.Bool.{eq-eqb, ne_eqb}
use Rattle.std.proofs.lemmas.Cmp.{nat_eq_equiv, nat_list_eq_equiv}
use Rattle.sv_offer_laws.proofs.OwnLemmas.{same_name-is}
use Rattle.sv_offers.specs.Addressed.{is_made_to}
use Rattle.apl_arrays.specs.Name.{same_name}
use Rattle.sv_rules.specs.Coupling.{is_coupled, is_open_match}
use Rattle.sv_rules.specs.declared.coupling.Made.{Made}
use Rattle.sv_rules.specs.declared.standing.Standing.{Standing}

-- where both may not be made to any, one is made to the other's party
by_tests : (c p s a z b y : Bool) → (c && ((((p && s) && (a || z)) && (b || y)) && not (z && y))) ≡ true → cond z b a ≡ true
by_tests false p s a z b y h = cc
by_tests true false s a z b y h = cc
by_tests true true false a z b y h = cc
by_tests true true true true true true true h = cc
by_tests true true true true true true false h = refl
by_tests true true true true true false true h = cc
by_tests true true true true true false false h = cc
by_tests true true true true false b y h = refl
by_tests true true true false true true true h = cc
by_tests true true true false true true false h = refl
by_tests true true true false true false true h = cc
by_tests true true true false true false false h = cc
by_tests true true true false false b y h = cc

-- and they are of one surrogate
name_tests : (c p s a z b y : Bool) → (c && ((((p && s) && (a || z)) && (b || y)) && not (z && y))) ≡ true → s ≡ true
name_tests false p s a z b y h = cc
name_tests true false s a z b y h = cc
name_tests true true false a z b y h = cc
name_tests true true true a z b y h = refl

among_tests : (coupled : List Made) (offer other : Standing) → is_open_match coupled offer other ≡ true → cond (eqb offer.to 0) (eqb other.to offer.party) (eqb offer.to other.party) ≡ true
among_tests coupled offer other matches =
    by_tests (not (is_coupled coupled other.place)) (not (eqb offer.party other.party)) (same_name offer.surrogate other.surrogate) (eqb offer.to other.party) (eqb offer.to 0) (eqb other.to offer.party) (eqb other.to 0) matches

-- an offer that is made to a party is matched by one of that party
pub match_is_of_party : (coupled : List Made) (offer other : Standing) → (offer.to ≡ 0 → ⊥) → is_open_match coupled offer other ≡ true → eqb other.party offer.to ≡ true
match_is_of_party coupled offer other to_party matches =
    nat_eq_equiv.symm other.party offer.to ∙ sym (ap (λ b. cond b (eqb other.to offer.party) (eqb offer.to other.party)) (ne_eqb offer.to 0 to_party)) ∙ among_tests coupled offer other matches

-- an offer that is made to any is matched by one that is made to its party, under its surrogate
pub match_is_made_to : (coupled : List Made) (offer other : Standing) → offer.to ≡ 0 → is_open_match coupled offer other ≡ true → is_made_to offer.party (Some offer.surrogate) other ≡ true
match_is_made_to coupled offer other to_any matches =
    let made_to : eqb other.to offer.party ≡ true =
    sym (ap (λ b. cond b (eqb other.to offer.party) (eqb offer.to other.party)) (eq-eqb offer.to 0 to_any)) ∙ among_tests coupled offer other matches in
    let named =
    same_name-is offer.surrogate other.surrogate
    (name_tests (not (is_coupled coupled other.place)) (not (eqb offer.party other.party)) (same_name offer.surrogate other.surrogate) (eqb offer.to other.party) (eqb offer.to 0) (eqb other.to offer.party) (eqb other.to 0) matches) in
    ap₂ (λ a b. a && b) made_to (ap (λ name. same_name name offer.surrogate) (sym named) ∙ nat_list_eq_equiv.refl offer.surrogate)
