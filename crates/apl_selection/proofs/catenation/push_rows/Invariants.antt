use Rattle.std.proofs.Common.{◌≡◌, ◌+◌, ◌*◌, ◌++◌, ◌≤◌, Some, length, vec_len, vec_capacity}
use Rattle.apl_items.specs.Moves.{moved_list}
use Rattle.apl_selection.specs.Catenation.{catenated_place}
use Rattle.apl_selection.proofs.catenation.push_rows.Given as goal

-- the rows so far are added
abbrev pub invariant-loop-outer : goal.invariant-loop-outer
invariant-loop-outer g l = record {
  whole : vec_len l.made ≡ vec_len l.fn.made + l.outer * (l.fn.split.along * l.fn.split.inner);
  room : vec_capacity l.fn.made ≤ vec_capacity l.made;
  items : l.made.items ≡ l.fn.made.items ++ moved_list l.fn.fill (l.fn.a ++ l.fn.b) (l.outer * (l.fn.split.along * l.fn.split.inner)) (λ place. Some (catenated_place l.fn.split (length l.fn.a) (length l.fn.b) l.fn.spans.0 l.fn.spans.1 place));
}
