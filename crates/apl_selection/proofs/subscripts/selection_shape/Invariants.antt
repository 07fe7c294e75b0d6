use Rattle.std.proofs.Common.{◌≡◌, ◌≤◌, ◌*◌, length, slice_index, map}
use Rattle.std.specs.Prelude.{option_copied}
use Rattle.std.specs.List.{flat_map}
use Rattle.apl_items.specs.Places.{places}
use Rattle.apl_selection.specs.Subscripts.{axes_by, sub_on}
use Rattle.apl_selection.proofs.subscripts.selection_shape.Given as goal

-- the axes that the subscripts so far give, eight for each of them at the most
abbrev pub invariant-loop-axis : goal.invariant-loop-axis
invariant-loop-axis l = record {
  given : l.axes.items ≡ flat_map (λ axis. axes_by (slice_index l.shape axis) (sub_on (map option_copied l.subs) axis)) (places l.axis);
  few : length l.axes.items ≤ 8 * l.axis;
}
