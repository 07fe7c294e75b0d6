use Rattle.std.proofs.Common.{◌≡◌, ◌+◌, ◌++◌, vec_len, vec_capacity}
use Rattle.apl_items.specs.Axes.{added}
use Rattle.apl_items.specs.Moves.{moved_list}
use Rattle.apl_items.proofs.axes.push_last.Given as goal

-- the items so far are added
abbrev pub invariant-loop-along : goal.invariant-loop-along
invariant-loop-along g l = record {
  whole : vec_len l.made ≡ vec_len l.fn.made + l.along;
  room : vec_capacity l.made ≡ vec_capacity l.fn.made;
  items : l.made.items ≡ l.fn.made.items ++ moved_list l.fn.fill l.fn.list l.along (λ along. added l.fn.base (g.X.Axes.offset l.fn.axes l.fn.axis along));
}
