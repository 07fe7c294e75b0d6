use Rattle.std.proofs.Common.{◌≡◌, ◌+◌, ◌*◌, vec_len, vec_capacity, length}
use Rattle.apl_operators.specs.Running.{RunsTo, row_length}
use Rattle.apl_operators.proofs.running.push_row.Given as goal

-- the items of the row so far are made, with room for all
abbrev pub invariant-loop-at : goal.invariant-loop-at
invariant-loop-at g l = record {
  whole : vec_len l.made ≡ l.outer * row_length l.split + l.at;
  room : vec_capacity l.made ≡ length l.list;
  each : RunsTo (goal.F-post g l.rule) l.list l.split (l.outer * row_length l.split + l.at) l.made.items;
}
