use Rattle.std.proofs.Common.{◌≡◌, ◌+◌, ◌++◌, vec_len, vec_capacity}
use Rattle.apl_items.specs.Along.{source_in_row}
use Rattle.apl_items.specs.Moves.{moved_list}
use Rattle.apl_items.proofs.along.push_run.Given as goal

-- the items so far are added
abbrev pub invariant-loop-inner : goal.invariant-loop-inner
invariant-loop-inner g l = record {
  whole : vec_len l.made ≡ vec_len l.fn.made + l.inner;
  room : vec_capacity l.made ≡ vec_capacity l.fn.made;
  items : l.made.items ≡ l.fn.made.items ++ moved_list l.fn.fill l.fn.list l.inner (λ inner. source_in_row l.fn.split (g.R.Along.length l.fn.rule) (g.R.Along.from l.fn.rule) l.fn.outer l.fn.along inner);
}
