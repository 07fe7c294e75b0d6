use Rattle.std.proofs.Common.{◌≡◌, ◌+◌, ◌++◌, map, take, vec_capacity, vec_len}
use Rattle.apl_items.specs.Axes.{added}
use Rattle.apl_selection.proofs.assignment.push_beyond.Given as goal

-- the places so far
abbrev pub invariant-loop-next : goal.invariant-loop-next
invariant-loop-next l = record {
  items : l.made.items ≡ l.initial.made.items ++ map (added l.first) (take l.next-index l.after);
  len : vec_len l.made ≡ vec_len l.initial.made + l.next-index;
  room : vec_capacity l.made ≡ vec_capacity l.initial.made;
}
