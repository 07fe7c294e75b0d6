use Rattle.std.proofs.Common.{◌≡◌, ◌<◌, ℕ, length, get_or}
use Rattle.apl_items.specs.Shapes.{stride_of}
use Rattle.apl_selection.proofs.strides.strides_of.Given as goal

-- the strides of the axes so far
abbrev pub invariant-loop-axis : goal.invariant-loop-axis
invariant-loop-axis l = record {
  whole : length l.strides.items ≡ l.axis;
  each : (k : ℕ) → k < l.axis → get_or l.strides.items k 0 ≡ stride_of l.shape k;
}
