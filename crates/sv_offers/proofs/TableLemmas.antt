-- The table's look-ups, and the steps of an ending one after another.
use Rattle.std.proofs.Common.{◌≡◌, ℕ, Bool, true, false, not, eqb, List, [], ◌∷◌, ◌++◌, Option, Some, None, find, ap, sym, refl, ◌∙◌, cond}
use Rattle.std.proofs.Math.Bool.{and_comm}
use Rattle.std.proofs.lemmas.Bool.{and_from, and_parts}
use Rattle.std.specs.List.{filter}
use Rattle.std.specs.Prelude.{option_map, option_to_list}
use Rattle.sv_events.specs.declared.row.Ending.{Ending}
use Rattle.sv_rules.specs.declared.coupling.Made.{Made}
use Rattle.sv_rules.specs.declared.standing.Standing.{Standing}
use Rattle.sv_rules.specs.Standing.{without_ended}
use Rattle.sv_rules.specs.Coupling.{is_coupled, kept_by_ending, made_by_ending, open_match, pair_of, recoupled, reopened_by_ending}
use Rattle.sv_offer_laws.proofs.Members.{filter-filter}
use Rattle.sv_offers.proofs.FilterLemmas.{commute, filter_alike}
use Rattle.sv_offers.specs.Addressed.{is_made_to}
use Rattle.sv_offers.specs.Table.{PlainOffers, after_ending, after_offer, is_open_to, open_among}

-- the first of all that pass
first_passed : {X : Type 0} (p : X → Bool) (xs : List X) → find (λ _. true) (filter p xs) ≡ find p xs
first_passed p [] = refl
first_passed p (x ∷ xs) = by (p x) refl (first_passed p xs)
  where
    by : (b : Bool) → p x ≡ b → find (λ _. true) (filter p xs) ≡ find p xs → find (λ _. true) (filter p (x ∷ xs)) ≡ find p (x ∷ xs)
    by true h rest = ap (λ c. find (λ _. true) (cond c (x ∷ filter p xs) (filter p xs))) h ∙ ap (λ c. cond c (Some x) (find p xs)) (sym h)
    by false h rest = ap (λ c. find (λ _. true) (cond c (x ∷ filter p xs) (filter p xs))) h ∙ rest ∙ ap (λ c. cond c (Some x) (find p xs)) (sym h)

-- the open offers made to a party, by one test
pub open_by_test : (table : PlainOffers) (party : ℕ) →
    open_among table party ≡ filter (is_open_to table.coupled party) table.offers
open_by_test table party =
    filter-filter (λ (offer : Standing). eqb offer.to party) (λ (offer : Standing). not (is_coupled table.coupled offer.place)) table.offers
    ∙ filter_alike _ _ (λ offer. and_comm (not (is_coupled table.coupled offer.place)) (eqb offer.to party)) table.offers

pub first_by_test : (table : PlainOffers) (party : ℕ) →
    find (λ _. true) (open_among table party) ≡ find (is_open_to table.coupled party) table.offers
first_by_test table party =
    ap (find (λ _. true)) (open_by_test table party) ∙ first_passed (is_open_to table.coupled party) table.offers

-- what reopened offers make is what the ending makes
pub recoupled_is_made : (at : ℕ) (offers : List Standing) (coupled : List Made) (party : ℕ) (ending : Ending) (left opened : List Standing) (kept : List Made) →
    left ≡ without_ended offers party ending → kept ≡ kept_by_ending offers coupled party ending → opened ≡ reopened_by_ending offers coupled party ending →
    recoupled at left kept opened ≡ made_by_ending at offers coupled party ending
recoupled_is_made at offers coupled party ending left opened kept is_left is_kept is_opened =
    ap (λ l. recoupled at l kept opened) is_left
    ∙ ap (λ k. recoupled at (without_ended offers party ending) k opened) is_kept
    ∙ ap (λ o. recoupled at (without_ended offers party ending) (kept_by_ending offers coupled party ending) o) is_opened

-- with what these make the table is that after the ending
pub ended_table : (at : ℕ) (table : PlainOffers) (party : ℕ) (ending : Ending) (left opened : List Standing) (kept coupled : List Made) →
    left ≡ without_ended table.offers party ending → kept ≡ kept_by_ending table.offers table.coupled party ending → opened ≡ reopened_by_ending table.offers table.coupled party ending →
    coupled ≡ kept ++ recoupled at left kept opened → (let t : PlainOffers = record { offers = left; coupled = coupled } in t) ≡ after_ending at table party ending
ended_table at table party ending left opened kept coupled is_left is_kept is_opened is_coupled =
    let made = recoupled_is_made at table.offers table.coupled party ending left opened kept is_left is_kept is_opened in
    ap (λ os. let t : PlainOffers = record { offers = os; coupled = coupled } in t) is_left
    ∙ ap (λ ms. let t : PlainOffers = record { offers = without_ended table.offers party ending; coupled = ms } in t)
    (is_coupled ∙ ap (λ ms. kept ++ ms) made ∙ ap (λ ms. ms ++ made_by_ending at table.offers table.coupled party ending) is_kept)

-- with a new offer, and the pair that it makes, the table is that after the offer
pub added_table : (table : PlainOffers) (new : Standing) (offers : List Standing) (coupled : List Made) (match : Option Standing) → offers ≡ table.offers ++ new ∷ [] →
    match ≡ open_match table.offers table.coupled new →
    coupled ≡ table.coupled ++ option_to_list (option_map (λ match. let m : Made = record { pair = pair_of match new; at = new.place } in m) match) →
    (let t : PlainOffers = record { offers = offers; coupled = coupled } in t) ≡ after_offer table new
added_table table new offers coupled match is_offers is_match is_coupled =
    ap (λ os. let t : PlainOffers = record { offers = os; coupled = coupled } in t) is_offers
    ∙ ap (λ ms. let t : PlainOffers = record { offers = table.offers ++ new ∷ []; coupled = ms } in t)
    (is_coupled ∙ ap (λ o. table.coupled ++ option_to_list (option_map (λ match. let m : Made = record { pair = pair_of match new; at = new.place } in m) o)) is_match)

-- an open offer to a party is among those that are made to it
pub open_is_made_to : (coupled : List Made) (party : ℕ) (offer : Standing) → is_open_to coupled party offer ≡ true → is_made_to party None offer ≡ true
open_is_made_to coupled party offer open' = and_from (eqb offer.to party) true (and_parts (eqb offer.to party) (not (is_coupled coupled offer.place)) open').0 refl

-- the open offers that one party made to another, among its own
pub own_open_to : (table : PlainOffers) (from to : ℕ) →
    filter (is_open_to table.coupled to) (filter (λ (offer : Standing). eqb offer.party from) table.offers) ≡ filter (λ (offer : Standing). eqb offer.party from) (open_among table to)
own_open_to table from to =
    commute (is_open_to table.coupled to) (λ (offer : Standing). eqb offer.party from) table.offers
    ∙ ap (filter (λ (offer : Standing). eqb offer.party from)) (sym (open_by_test table to))
