use Rattle.std.proofs.Common.{◌≡◌, ◌+◌, min, take}
use Rattle.apl_arrays.specs.Array.{element_count}
use Rattle.apl_arrays.specs.Limits.{most_elements}
use Rattle.apl_arrays.proofs.array.capped_count.Given as goal

-- the count so far, capped
abbrev pub invariant-loop-axis : goal.invariant-loop-axis
invariant-loop-axis l = l.count ≡ min (element_count (take l.axis-index l.shape)) (most_elements + 1)
