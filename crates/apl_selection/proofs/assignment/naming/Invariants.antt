use Rattle.std.proofs.Common.{◌≡◌, ◌≤◌, drop, length, map}
use Rattle.std.specs.Prelude.{option_copied}
use Rattle.apl_arrays.specs.Array.{element_count}
use Rattle.apl_items.specs.Axes.{offset_at}
use Rattle.apl_items.specs.Places.{places}
use Rattle.apl_items.specs.Shapes.{coordinates_of}
use Rattle.apl_selection.specs.Naming.{naming_by}
use Rattle.apl_selection.proofs.assignment.naming.Given as goal

-- the places that are told from the axes from one on
abbrev pub invariant-loop-axis : goal.invariant-loop-axis
invariant-loop-axis l = record {
  inside : l.axis ≤ length l.shape;
  told : l.after.items ≡ map (λ place. offset_at (naming_by l.shape (map option_copied l.subs) l.strides) l.axis (coordinates_of (drop l.axis l.shape) place)) (places (element_count (drop l.axis l.shape)));
}

-- the axes that are left
abbrev pub decreases-loop-axis : goal.decreases-loop-axis
decreases-loop-axis l = l.axis
