use Rattle.std.proofs.Common.{◌≡◌, ◌<◌, ℕ, ℤ, true, get_or}
use Rattle.apl_arrays.specs.Number.{fits}
use Rattle.apl_scalar.proofs.reading.read_all.Given as goal

-- each number so far is in 64 bits
abbrev pub invariant-loop-place : goal.invariant-loop-place
invariant-loop-place l = (k : ℕ) (d : ℤ) → k < l.place → fits (get_or l.list k d) ≡ true
