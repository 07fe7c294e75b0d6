use Rattle.std.proofs.Common.{◌+◌, ℕ, ap, ◌∙◌}
use Rattle.apl_structure.specs.Diagonals.{axes_named, step_along}
use Rattle.apl_selection.proofs.MoveLemmas.{one_place_more}
use Rattle.apl_structure.proofs.diagonals.steps_of.Goals as goal

pub loop-axis-preserved : goal.loop-axis-preserved
loop-axis-preserved c = record {
  items = c.push_reserved.ensures.items
      ∙ one_place_more (step_along (axes_named c.args.numbers.now) c.args.strides.now) c.loop-axis.axis c.step_of.result c.loop-axis.steps.items c.loop-axis.invariant.items c.step_of.ensures.value;
  whole = c.push_reserved.ensures.len ∙ ap (λ (n : ℕ). n + 1) c.loop-axis.invariant.whole;
  room = c.push_reserved.ensures.capacity ∙ c.loop-axis.invariant.room;
}
