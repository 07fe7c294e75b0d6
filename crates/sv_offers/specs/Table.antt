use Rattle.std.specs.Prelude.{ℕ, Bool, ◌==◌, ◌&&◌, not, List, [], ◌∷◌, ◌++◌, map, filter, Option, None, Some, option_map, option_to_list, if◌then◌else◌}
use Rattle.sv_events.specs.declared.entry.Pair.{Pair}
use Rattle.sv_events.specs.declared.row.Ending.{Ending}
use Rattle.sv_rules.specs.Coupling.{is_coupled, is_open_match, kept_by_ending, made_by_ending, offer_at, open_match, pair_of}
use Rattle.sv_rules.specs.Standing.{without_ended}
use Rattle.sv_rules.specs.declared.coupling.Made.{Made}
use Rattle.sv_rules.specs.declared.standing.Standing.{Standing}

-- the offers that stand, by place, and the couplings, in the order in which they were made
pub record PlainOffers : Type 0 where
  pub offers : List Standing
  pub coupled : List Made

-- the pair that a new offer makes with its open match, at its own place
abbrev pub made_by_offer : PlainOffers → Standing → Option Made
made_by_offer table new = option_map (λ match. record { pair = pair_of match new; at = new.place }) (open_match table.offers table.coupled new)

-- the table with a new offer
abbrev pub after_offer : PlainOffers → Standing → PlainOffers
after_offer table new = record {
  offers = table.offers ++ new ∷ [];
  coupled = table.coupled ++ option_to_list (made_by_offer table new);
}

-- the pairs that are made where an act of a party ends offers together, at a place
abbrev pub pairs_made : ℕ → PlainOffers → ℕ → Ending → List Pair
pairs_made at table party ending = map (λ made. made.pair) (made_by_ending at table.offers table.coupled party ending)

-- the table after it
abbrev pub after_ending : ℕ → PlainOffers → ℕ → Ending → PlainOffers
after_ending at table party ending = record {
  offers = without_ended table.offers party ending;
  coupled = kept_by_ending table.offers table.coupled party ending ++ made_by_ending at table.offers table.coupled party ending;
}

-- an offer that passes a test, if there is one
abbrev pub passing : (Standing → Bool) → Option Standing → Option Standing
passing test None = None
passing test (Some offer) = if test offer then Some offer else None

-- the offer is open, and made to a party by its number
abbrev pub is_open_to : List Made → ℕ → Standing → Bool
is_open_to coupled party offer = offer.to == party && not (is_coupled coupled offer.place)

-- and is so by another
abbrev pub is_open_by : List Made → ℕ → ℕ → Standing → Bool
is_open_by coupled party from offer = offer.party == from && is_open_to coupled party offer

-- the offer at a place, if it is open and made to a party by its number
abbrev pub open_at : List Standing → List Made → ℕ → ℕ → Option Standing
open_at offers coupled party place = passing (is_open_to coupled party) (offer_at offers place)

-- the offer at a place, if it is open and matches another
abbrev pub match_at : List Standing → List Made → Standing → ℕ → Option Standing
match_at offers coupled offer place = passing (is_open_match coupled offer) (offer_at offers place)

-- the open offers made to a party by its number, by place
abbrev pub open_among : PlainOffers → ℕ → List Standing
open_among table party = filter (λ offer. offer.to == party) (filter (λ offer. not (is_coupled table.coupled offer.place)) table.offers)
