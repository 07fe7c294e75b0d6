use Rattle.std.proofs.Common.{◌≡◌, ◌+◌, ◌*◌, ◌++◌, length, vec_len, vec_capacity}
use Rattle.apl_arrays.specs.Array.{element_count}
use Rattle.apl_items.specs.Axes.{added, offset_at}
use Rattle.apl_items.specs.Moves.{moved_list}
use Rattle.apl_items.specs.Shapes.{coordinates_of}
use Rattle.apl_items.proofs.axes.+push_axes.Given as goal

abbrev pub decreases-push_axes : goal.decreases-push_axes
decreases-push_axes g l = length l.shape.now

-- the rows so far are added
abbrev pub invariant-loop-along : goal.invariant-loop-along
invariant-loop-along g l = record {
  whole : vec_len l.made ≡ vec_len l.fn.made + l.along * element_count l.rest;
  room : vec_capacity l.made ≡ vec_capacity l.fn.made;
  items : l.made.items ≡ l.fn.made.items ++ moved_list l.fn.fill l.fn.list (l.along * element_count l.rest) (λ place. added l.fn.base (offset_at (g.X.Axes.offset l.fn.axes) l.fn.axis (coordinates_of l.fn.shape place)));
}
