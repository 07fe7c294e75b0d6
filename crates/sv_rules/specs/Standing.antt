use Rattle.std.specs.Prelude.{ℕ, Bool, ◌&&◌, ◌||◌, ◌==◌, not, List, [], ◌∷◌, ◌++◌, filter, find, count_by, Option, Some, None, is_none, if◌then◌else◌}
use Rattle.sv_events.specs.Row.{act_row}
use Rattle.sv_events.specs.declared.row.AnswerKind.{AnswerKind}
use Rattle.sv_events.specs.declared.row.ActRow.{ActRow}
use Rattle.sv_events.specs.declared.row.Opening.{Opening}
use Rattle.sv_events.specs.declared.row.Ending.{Ending}
use Rattle.sv_events.specs.declared.row.Ending.TheVariants.{One, All}
use Rattle.sv_rules.specs.declared.standing.Standing.{Standing}
use Rattle.apl_arrays.specs.Name.{same_name}
use Rattle.sv_events.specs.Fits.{is_degree}
use Rattle.sv_rules.specs.Entries.{Entries, next_place, kind_of}

-- the offer is the party's, of this local name
abbrev pub is_own : ℕ → List ℕ → Standing → Bool
is_own party local offer = offer.party == party && same_name offer.local local

-- the party's offer of a local name among some offers
abbrev pub own_offer : List Standing → ℕ → List ℕ → Option Standing
own_offer offers party local = find (is_own party local) offers

-- how many of the offers are the party's
abbrev pub offer_count : List Standing → ℕ → ℕ
offer_count offers party = count_by (λ offer. offer.party == party) offers

-- the offers that are not the party's
abbrev pub without_party : List Standing → ℕ → List Standing
without_party offers party = filter (λ offer. not (offer.party == party)) offers

-- the offers but the party's of a local name
abbrev pub without_offer_of : List Standing → ℕ → List ℕ → List Standing
without_offer_of offers party local = filter (λ offer. not (is_own party local offer)) offers

-- an act of the party that ends offers ends this one
abbrev pub is_ended : ℕ → Ending → Standing → Bool
is_ended party (One local) offer = is_own party local offer
is_ended party All offer = offer.party == party

-- the offers but those that an act of the party ends
abbrev pub without_ended : List Standing → ℕ → Ending → List Standing
without_ended offers party ending = filter (λ offer. not (is_ended party ending offer)) offers

-- the offers with a new one, where its party has none of its local name
abbrev pub with_offer : List Standing → Standing → List Standing
with_offer offers new = if is_none (own_offer offers new.party new.local) then offers ++ new ∷ [] else offers

-- the offer that an act of a party opens at a place
abbrev pub offer_made : ℕ → ℕ → Opening → Standing
offer_made place party opening = record { place = place; party = party; to = opening.to; local = opening.local; surrogate = opening.surrogate }

-- the offers with the one that an act opens, where it is answered with a degree
abbrev pub with_opened : List Standing → ℕ → ℕ → AnswerKind → Option Opening → List Standing
with_opened offers place party given None = offers
with_opened offers place party given (Some opening) = if is_degree given then with_offer offers (offer_made place party opening) else offers

-- the offers but those that an act ends, if it ends any
abbrev pub with_ended : List Standing → ℕ → Option Ending → List Standing
with_ended offers party None = offers
with_ended offers party (Some ending) = without_ended offers party ending

-- the offers that stand after an act of a party at a place, by what stood before
abbrev pub standing_after : List Standing → ℕ → ℕ → AnswerKind → ActRow → List Standing
standing_after offers place party given row = with_ended (with_opened offers place party given row.opens) party row.ends

-- the offers that stand, by place
abbrev pub standing : Entries → List Standing
standing [] = []
standing (e ∷ journal) = standing_after (standing journal) (next_place journal) e.party (kind_of e.answer) (act_row e.act).row

-- two offers of different parties under one surrogate, each made to the other's party or to any, and not both to any
abbrev pub is_match : Standing → Standing → Bool
is_match one other =
    not (one.party == other.party) && same_name one.surrogate other.surrogate && (one.to == other.party || one.to == 0)
    && (other.to == one.party || other.to == 0) && not (one.to == 0 && other.to == 0)
