use Rattle.std.proofs.Common.{◌≡◌, false, slice_index, map}
use Rattle.std.specs.Prelude.{option_copied}
use Rattle.std.specs.List.{list_any}
use Rattle.apl_items.specs.Places.{places}
use Rattle.apl_selection.specs.Subscripts.{points_outside, sub_on}
use Rattle.apl_selection.proofs.subscripts.point_outside.Given as goal

-- no subscript so far is outside its axis
abbrev pub invariant-loop-axis : goal.invariant-loop-axis
invariant-loop-axis l = list_any (λ axis. points_outside (slice_index l.shape axis) (sub_on (map option_copied l.subs) axis)) (places l.axis) ≡ false
