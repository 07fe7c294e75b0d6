use Rattle.std.proofs.Common.{◌≡◌, ◌*◌, vec_len, vec_capacity, length}
use Rattle.apl_operators.specs.Running.{RunsTo, row_length}
use Rattle.apl_operators.proofs.running.running.Given as goal

-- the rows so far are made, with room for all
abbrev pub invariant-loop-outer : goal.invariant-loop-outer
invariant-loop-outer g l = record {
  whole : vec_len l.made ≡ l.outer * row_length l.split;
  room : vec_capacity l.made ≡ length l.list;
  each : RunsTo (goal.F-post g l.rule) l.list l.split (l.outer * row_length l.split) l.made.items;
}
