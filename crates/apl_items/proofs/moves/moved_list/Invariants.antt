use Rattle.std.proofs.Common.{◌≡◌, ◌+◌, ℕ, vec_len, vec_capacity}
use Rattle.apl_items.specs.Moves.{moved_list}
use Rattle.apl_items.proofs.moves.moved_list.Given as goal

-- the items for the places so far, with room for all, and the walk stands at the next place
abbrev pub invariant-loop-place : goal.invariant-loop-place
invariant-loop-place g l = record {
  whole : vec_len l.made ≡ l._place;
  room : vec_capacity l.made ≡ l.count;
  items : l.made.items ≡ moved_list l.fill l.list l._place (g.W.Walk.source l.fn.walk);
  left : g.W.Walk.left l.walk + l._place ≡ g.W.Walk.left l.fn.walk;
  ahead : (n : ℕ) → g.W.Walk.source l.walk n ≡ g.W.Walk.source l.fn.walk (l._place + n);
}
