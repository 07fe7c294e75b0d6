use Rattle.std.proofs.Common.{◌∙◌, arith}
use Rattle.apl_selection.proofs.AssignLemmas.{all_more}
use Rattle.apl_selection.proofs.assignment.all_places.Goals as goal

pub loop-along-preserved : goal.loop-along-preserved
loop-along-preserved c = record {
  items = c.push_reserved.ensures.items ∙ all_more c.args.stride c.loop-along.along c.scaled.result c.loop-along.table.items c.loop-along.invariant.items c.scaled.ensures.value;
  len = omega arith;
  room = omega arith;
}
