use Rattle.std.proofs.Common.{◌≡◌}
use Rattle.apl_scalar.specs.Counting.{factorial}
use Rattle.apl_scalar.proofs.counting.small_factorial.Given as goal

-- the factorial of the factors so far
abbrev pub invariant-loop-count : goal.invariant-loop-count
invariant-loop-count l = l.product ≡ factorial l.count
