use Rattle.std.proofs.Common.{◌≡◌, ◌+◌, ◌<◌, ◌^◌}
use Rattle.apl_scalar.specs.Counting.{ways}
use Rattle.apl_scalar.proofs.counting.ways_of.Given as goal

-- the ways with so many taken, which are of 64 bits
abbrev pub invariant-loop-done : goal.invariant-loop-done
invariant-loop-done l = record { value : l.ways ≡ ways l.done (l.left + l.done); small : l.ways < 2 ^ 63 }
