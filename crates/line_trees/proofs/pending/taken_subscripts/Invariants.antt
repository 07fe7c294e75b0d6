use Rattle.std.proofs.Common.{◌≡◌, ◌++◌, length}
use Rattle.line_trees.specs.Building.{subscripts, behind_subscripts}
use Rattle.line_trees.proofs.pending.taken_subscripts.Given as goal

-- the subscripts that were taken and those that wait are all
abbrev pub invariant-loop-place : goal.invariant-loop-place
invariant-loop-place l = (l.list.items ++ subscripts l.waiting ≡ subscripts l.fn.waiting) × (behind_subscripts l.waiting ≡ behind_subscripts l.fn.waiting)

-- what waits
abbrev pub decreases-loop-place : goal.decreases-loop-place
decreases-loop-place l = length l.waiting
