use Rattle.std.proofs.Common.{None, slice_index_or, ◌∙◌, arith}
use Rattle.apl_selection.proofs.AssignLemmas.{overlaid_more}
use Rattle.apl_selection.proofs.assignment.overlaid_list.Goals as goal

pub loop-place-preserved : goal.loop-place-preserved
loop-place-preserved g c = record {
  items = c.push_reserved.ensures.items
      ∙ overlaid_more c.args.old.now c.args.new.now (λ place. slice_index_or c.args.sources.now place None) c.loop-place.place c.index-old-place.result c.put_over.result c.loop-place.made.items
      c.loop-place.invariant.items c.loop-place-test.true c.index-old-place.is c.put_over.ensures;
  len = omega arith;
  room = omega arith;
}
