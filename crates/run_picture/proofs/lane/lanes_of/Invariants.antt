use Rattle.std.proofs.Common.{◌≡◌, ◌≤◌, ◌+◌, length, drop, map}
use Rattle.sv_events.specs.Entry.{plain_entry}
use Rattle.run_picture.specs.Lane.{lanes_of}
use Rattle.run_picture.proofs.lane.lanes_of.Given as goal

-- the parties of the last entries
abbrev pub invariant-loop-left : goal.invariant-loop-left
invariant-loop-left l = record {
  within : l.left ≤ length l.entries;
  same : l.lanes.items ≡ lanes_of (map plain_entry (drop l.left l.entries));
  few : length l.lanes.items + l.left ≤ length l.entries;
}

abbrev pub decreases-loop-left : goal.decreases-loop-left
decreases-loop-left l = l.left
