use Rattle.std.proofs.Common.{◌<◌, ◌≤◌, ℕ, ℤ, get_or, unsigned_abs}
use Rattle.apl_operators.proofs.sums.bound_of_magnitudes.Given as goal

-- no number so far has a magnitude above the bits
abbrev pub invariant-loop-place : goal.invariant-loop-place
invariant-loop-place l = (k : ℕ) (d : ℤ) → k < l.place → unsigned_abs (get_or l.list k d) ≤ l.bits
