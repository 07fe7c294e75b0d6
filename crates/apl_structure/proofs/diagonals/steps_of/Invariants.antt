use Rattle.std.proofs.Common.{◌≡◌, map, vec_len, vec_capacity}
use Rattle.apl_items.specs.Places.{places}
use Rattle.apl_structure.specs.Diagonals.{axes_named, step_along}
use Rattle.apl_structure.proofs.diagonals.steps_of.Given as goal

-- the steps so far, with room for the others
abbrev pub invariant-loop-axis : goal.invariant-loop-axis
invariant-loop-axis l = record {
  items : l.steps.items ≡ map (step_along (axes_named l.numbers) l.strides) (places l.axis);
  whole : vec_len l.steps ≡ l.axis;
  room : vec_capacity l.steps ≡ l.count;
}
