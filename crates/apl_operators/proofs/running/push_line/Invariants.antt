use Rattle.std.proofs.Common.{◌≡◌, ◌+◌, ◌-◌, ◌*◌, Some, slice_get, vec_len, vec_capacity, length}
use Rattle.apl_operators.specs.Running.{RunsTo, row_length}
use Rattle.apl_operators.proofs.running.push_line.Given as goal

-- the items of the line so far are made, with room for all, and the last of them is kept
abbrev pub invariant-loop-along : goal.invariant-loop-along
invariant-loop-along g l = record {
  whole : vec_len l.made ≡ l.fn.outer * row_length l.fn.split + l.along;
  room : vec_capacity l.made ≡ length l.list;
  each : RunsTo (goal.F-post g l.rule) l.list l.fn.split (l.fn.outer * row_length l.fn.split + l.along) l.made.items;
  kept : slice_get l.made.items (l.fn.outer * row_length l.fn.split + l.along - 1) ≡ Some l.last;
}
