-- A lane for each party.
use Rattle.std.specs.Prelude.{ℕ, Bool, ◌==◌, nat_lt, List, map, count_by}
use Rattle.std.specs.List.{list_any}
use Rattle.sv_events.specs.Entry.{PlainEntry}
use Rattle.sv_rules.specs.Questions.{ascending}
use Rattle.run_picture.specs.Layout.{lane_middle}

-- the parties of entries, ascending, each once
abbrev pub lanes_of : List PlainEntry → List ℕ
lanes_of entries = ascending (map (λ e. e.party) entries)

-- the party has a lane
abbrev pub has_lane : List ℕ → ℕ → Bool
has_lane lanes party = list_any (λ lane. lane == party) lanes

-- the middle of a party's lane: as many stand in front as parties are below it
abbrev pub middle_of : List ℕ → ℕ → ℕ
middle_of lanes party = lane_middle (count_by (λ lane. nat_lt lane party) lanes)
