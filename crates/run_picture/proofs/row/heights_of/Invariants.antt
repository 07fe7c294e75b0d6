use Rattle.std.proofs.Common.{◌≡◌, ◌≤◌, take, map}
use Rattle.std.specs.List.{All}
use Rattle.sv_events.specs.Entry.{plain_entry}
use Rattle.run_picture.specs.Link.{height_of}
use Rattle.run_picture.proofs.row.heights_of.Given as goal

-- the heights of the entries so far
abbrev pub invariant-loop-entry : goal.invariant-loop-entry
invariant-loop-entry l = record {
  same : l.heights.items ≡ map (λ e. height_of l.lanes (map plain_entry l.entries) (plain_entry e)) (take l.entry-index l.shown);
  small : All (λ height. (26 ≤ height) × (height ≤ 404)) l.heights.items;
}
