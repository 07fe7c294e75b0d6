use Rattle.std.specs.Prelude.{ℕ, Bool, ◌&&◌, ◌||◌, ◌==◌, not, nat_lt, List, [], ◌∷◌, ◌++◌, map, filter, find, Option, None, option_and_then, option_to_list, option_map, if◌then◌else◌}
use Rattle.std.specs.List.{list_any}
use Rattle.sv_events.specs.declared.entry.Pair.{Pair}
use Rattle.sv_rules.specs.Entries.{Entries, next_place}
use Rattle.sv_rules.specs.declared.standing.Standing.{Standing}
use Rattle.sv_rules.specs.declared.coupling.Made.{Made}
use Rattle.sv_rules.specs.declared.coupling.Coupling.{Coupling}
use Rattle.sv_events.specs.declared.row.Ending.{Ending}
use Rattle.sv_events.specs.declared.row.Ending.TheVariants.{All}
use Rattle.sv_rules.specs.Standing.{standing, is_match, without_ended}

-- the pairs that were ever made, in order
abbrev pub made_in : Entries → List Made
made_in [] = []
made_in (e ∷ journal) = made_in journal ++ map (λ pair. record { pair = pair; at = next_place journal }) e.made

-- one of the offers is at this place
abbrev pub stands_at : List Standing → ℕ → Bool
stands_at offers place = list_any (λ offer. offer.place == place) offers

-- both offers of the pair are among these
abbrev pub both_stand : List Standing → Pair → Bool
both_stand offers pair = stands_at offers pair.a && stands_at offers pair.b

-- the couplings: the pairs that were made and whose two offers stand
abbrev pub couplings : Entries → List Made
couplings journal = filter (λ made. both_stand (standing journal) made.pair) (made_in journal)

-- the pair has the offer at this place
abbrev pub has_place : ℕ → Made → Bool
has_place place made = made.pair.a == place || made.pair.b == place

-- the offer at this place is coupled
abbrev pub is_coupled : List Made → ℕ → Bool
is_coupled coupled place = list_any (has_place place) coupled

-- 2 for a coupled offer, else 1
abbrev pub degree_at : List Made → ℕ → ℕ
degree_at coupled place = if is_coupled coupled place then 2 else 1

-- the other is open, and matches the offer
abbrev pub is_open_match : List Made → Standing → Standing → Bool
is_open_match coupled offer other = not (is_coupled coupled other.place) && is_match offer other

-- of the open matches of an offer the oldest
abbrev pub open_match : List Standing → List Made → Standing → Option Standing
open_match offers coupled offer = find (is_open_match coupled offer) offers

-- the pair of two offers, the lower place first
abbrev pub pair_of : Standing → Standing → Pair
pair_of one other =
    if nat_lt one.place other.place then record { a = one.place; b = other.place } else record { a = other.place; b = one.place }

-- the pair that a reopened offer makes at a place: with its open match, where it is still open itself
abbrev pub rejoined : ℕ → List Standing → List Made → Standing → Option Made
rejoined at offers coupled offer =
    if is_coupled coupled offer.place then None
    else option_map (λ match. record { pair = pair_of offer match; at = at }) (open_match offers coupled offer)

-- the pairs that reopened offers make at a place, one offer after another
abbrev pub recoupled : ℕ → List Standing → List Made → List Standing → List Made
recoupled at offers coupled [] = []
recoupled at offers coupled (offer ∷ reopened) =
    let made = option_to_list (rejoined at offers coupled offer) in made ++ recoupled at offers (coupled ++ made) reopened

-- the couplings of which both offers are among these
abbrev pub couplings_among : List Standing → List Made → List Made
couplings_among offers coupled = filter (λ made. both_stand offers made.pair) coupled

-- the offers that were coupled before and are not now
abbrev pub reopened_among : List Standing → List Made → List Made → List Standing
reopened_among offers before now =
    filter (λ offer. is_coupled before offer.place && not (is_coupled now offer.place)) offers

-- the couplings that are left where an act of a party ends offers together
abbrev pub kept_by_ending : List Standing → List Made → ℕ → Ending → List Made
kept_by_ending offers coupled party ending = couplings_among (without_ended offers party ending) coupled

-- the offers that this reopens, by place
abbrev pub reopened_by_ending : List Standing → List Made → ℕ → Ending → List Standing
reopened_by_ending offers coupled party ending =
    reopened_among (without_ended offers party ending) coupled (kept_by_ending offers coupled party ending)

-- the pairs that an ending at a place makes: each offer that it reopens takes its open match, by place
abbrev pub made_by_ending : ℕ → List Standing → List Made → ℕ → Ending → List Made
made_by_ending at offers coupled party ending =
    recoupled at (without_ended offers party ending) (kept_by_ending offers coupled party ending) (reopened_by_ending offers coupled party ending)

-- the offers that a leave reopens
abbrev pub reopened_by_leave : List Standing → List Made → ℕ → List Standing
reopened_by_leave offers coupled party = reopened_by_ending offers coupled party All

-- the offer at a place
abbrev pub offer_at : List Standing → ℕ → Option Standing
offer_at offers place = find (λ offer. offer.place == place) offers

-- the coupling of a pair that was made, where both its offers stand
abbrev pub coupling_of : List Standing → Made → Option Coupling
coupling_of offers made =
    option_and_then (λ a. option_map (λ b. record { a = a; b = b; at = made.at }) (offer_at offers made.pair.b)) (offer_at offers made.pair.a)

-- the coupling of the offer at a place
abbrev pub coupling_at : List Standing → List Made → ℕ → Option Coupling
coupling_at offers coupled place = option_and_then (coupling_of offers) (find (has_place place) coupled)

-- the coupling of the standing offer at a place, as the journal has it
abbrev pub coupling_now : Entries → ℕ → Option Coupling
coupling_now journal place = coupling_at (standing journal) (couplings journal) place

-- the party on the other side of the one at a place
abbrev pub partner_in : ℕ → Coupling → ℕ
partner_in place coupling = if coupling.a.place == place then coupling.b.party else coupling.a.party

-- the party with which the offer at a place is coupled, if it is
abbrev pub partner_at : Entries → ℕ → Option ℕ
partner_at journal place = option_map (partner_in place) (coupling_now journal place)

-- the open offers, by place
abbrev pub open_offers : Entries → List Standing
open_offers journal = filter (λ offer. not (is_coupled (couplings journal) offer.place)) (standing journal)

-- the open offers made to a party by its number, by place
abbrev pub open_to : Entries → ℕ → List Standing
open_to journal party = filter (λ offer. offer.to == party) (open_offers journal)
