use Rattle.std.proofs.Common.{◌≡◌, ◌+◌, ◌*◌, ◌/◌, ◌%◌, ◌++◌, vec_len, vec_capacity}
use Rattle.apl_items.specs.Along.{source_in_row}
use Rattle.apl_items.specs.Moves.{moved_list}
use Rattle.apl_items.proofs.along.push_row.Given as goal

-- the places along the axis so far are added
abbrev pub invariant-loop-along : goal.invariant-loop-along
invariant-loop-along g l = record {
  whole : vec_len l.made ≡ vec_len l.fn.made + l.along * l.fn.split.inner;
  room : vec_capacity l.made ≡ vec_capacity l.fn.made;
  items : l.made.items ≡ l.fn.made.items ++ moved_list l.fn.fill l.fn.list (l.along * l.fn.split.inner) (λ place. source_in_row l.fn.split (g.R.Along.length l.fn.rule) (g.R.Along.from l.fn.rule) l.fn.outer (place / l.fn.split.inner) (place % l.fn.split.inner));
}
