use Rattle.std.proofs.Common.{◌≡◌, ◌-◌, pos, map, slice_index, slice_index_or, unsigned_abs}
use Rattle.apl_items.specs.Places.{places}
use Rattle.apl_structure.proofs.taking.remaining_shape.Given as goal

-- the axes so far
abbrev pub invariant-loop-axis : goal.invariant-loop-axis
invariant-loop-axis l = l.shape.items ≡ map (λ axis. slice_index l.source axis - unsigned_abs (slice_index_or l.numbers axis (pos 0))) (places l.axis)
