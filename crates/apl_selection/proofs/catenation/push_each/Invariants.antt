use Rattle.std.proofs.Common.{◌≡◌, ◌+◌, ◌++◌, ◌≤◌, Some, length, vec_len, vec_capacity}
use Rattle.apl_items.specs.Extension.{place_in}
use Rattle.apl_items.specs.Moves.{moved_list}
use Rattle.apl_selection.proofs.catenation.push_each.Given as goal

-- the items so far are added
abbrev pub invariant-loop-place : goal.invariant-loop-place
invariant-loop-place g l = record {
  whole : vec_len l.made ≡ vec_len l.fn.made + l.place;
  room : vec_capacity l.fn.made ≤ vec_capacity l.made;
  items : l.made.items ≡ l.fn.made.items ++ moved_list l.fn.fill l.fn.list l.place (λ place. Some (place_in (length l.fn.list) (l.fn.start + place)));
}
