use Rattle.std.proofs.Common.{◌≡◌, ◌<◌, ℕ, false, get_or}
use Rattle.apl_search.proofs.index.place_by_walk.Given as goal

-- the item stands at no place so far
abbrev pub invariant-loop-place : goal.invariant-loop-place
invariant-loop-place g l = (k : ℕ) (d : _) → k < l.place → g.T.PartialEq.eq l.item (get_or l.list k d) ≡ false
