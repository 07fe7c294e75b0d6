-- Lines between lanes: an offer to a party, and a coupling.
use Rattle.std.specs.Prelude.{ℕ, Bool, true, false, ◌-◌, ◌&&◌, ◌==◌, nat_lt, List, [], ◌∷◌, ◌++◌, length, slice_get, Option, Some, None, option_map, option_and_then, if◌then◌else◌}
use Rattle.sv_events.specs.Entry.{PlainEntry}
use Rattle.sv_events.specs.Row.{act_row}
use Rattle.sv_events.specs.declared.entry.Pair.{Pair}
use Rattle.sv_events.specs.declared.row.Opening.{Opening}
use Rattle.run_picture.specs.Lane.{has_lane}
use Rattle.run_picture.specs.Layout.{height_with, most_links}
use Rattle.run_picture.specs.declared.link.Link.{Link}

-- the line from one party to another, where both have lanes
abbrev pub link_between : List ℕ → Bool → ℕ → ℕ → Option Link
link_between lanes coupled from to =
    if has_lane lanes from && has_lane lanes to then Some (record { coupled = coupled; from = from; to = to }) else None

-- the line of an offer, where it is made to another party
abbrev pub offered : List ℕ → ℕ → Option Opening → Option Link
offered lanes party None = None
offered lanes party (Some opening) = if opening.to == party then None else link_between lanes false party opening.to

-- the party of the entry at a place
abbrev pub party_at : List PlainEntry → ℕ → Option ℕ
party_at journal place = if place == 0 then None else option_map (λ e. e.party) (slice_get journal (place - 1))

-- the line of a pair, between the parties of its offers
abbrev pub coupled : List ℕ → List PlainEntry → Pair → Option Link
coupled lanes journal pair =
    option_and_then (λ a. option_and_then (λ b. link_between lanes true a b) (party_at journal pair.b)) (party_at journal pair.a)

-- one line more, where there is one and 64 are not there yet
abbrev pub link_added : List Link → Option Link → List Link
link_added links None = links
link_added links (Some link) = if nat_lt (length links) most_links then links ++ link ∷ [] else links

-- the lines of pairs, behind others
abbrev pub links_behind : List ℕ → List PlainEntry → List Link → List Pair → List Link
links_behind lanes journal links [] = links
links_behind lanes journal links (pair ∷ pairs) = links_behind lanes journal (link_added links (coupled lanes journal pair)) pairs

-- the lines of an entry: of its offer, and of the pairs that it makes, 64 at most
abbrev pub links_of : List ℕ → List PlainEntry → PlainEntry → List Link
links_of lanes journal e = links_behind lanes journal (link_added [] (offered lanes e.party (act_row e.act).row.opens)) e.made

-- how high an entry is
abbrev pub height_of : List ℕ → List PlainEntry → PlainEntry → ℕ
height_of lanes journal e = height_with (length (links_of lanes journal e))
