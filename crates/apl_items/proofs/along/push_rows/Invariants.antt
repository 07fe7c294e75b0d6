use Rattle.std.proofs.Common.{◌≡◌, ◌+◌, ◌*◌, ◌++◌, vec_len, vec_capacity}
use Rattle.apl_items.specs.Along.{source_along}
use Rattle.apl_items.specs.Moves.{moved_list}
use Rattle.apl_items.proofs.along.push_rows.Given as goal

-- the rows so far are added
abbrev pub invariant-loop-outer : goal.invariant-loop-outer
invariant-loop-outer g l = record {
  whole : vec_len l.made ≡ vec_len l.fn.made + l.outer * (l.fn.split.along * l.fn.split.inner);
  room : vec_capacity l.made ≡ vec_capacity l.fn.made;
  items : l.made.items ≡ l.fn.made.items ++ moved_list l.fn.fill l.fn.list (l.outer * (l.fn.split.along * l.fn.split.inner)) (source_along l.fn.split (g.R.Along.length l.fn.rule) (g.R.Along.from l.fn.rule));
}
