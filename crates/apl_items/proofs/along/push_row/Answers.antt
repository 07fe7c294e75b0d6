use Rattle.std.proofs.Common.{◌/◌, ◌%◌, ◌∙◌, arith}
use Rattle.apl_items.specs.Along.{source_in_row}
use Rattle.apl_items.proofs.AlongLemmas.{one_row_more, run_of_places}
use Rattle.apl_items.proofs.along.push_row.Goals as goal

pub loop-along-preserved : goal.loop-along-preserved
loop-along-preserved g c =
    let split = c.args.split in
    let long = g.R.Along.length c.args.rule.now in
    let from = g.R.Along.from c.args.rule.now in
    record {
      whole = omega (arith, c.push_run.ensures.len, c.loop-along.invariant.whole);
      room = c.push_run.ensures.room ∙ c.loop-along.invariant.room;
      items = one_row_more c.args.fill c.args.list.now (λ place. source_in_row split long from c.args.outer (place / split.inner) (place % split.inner)) (λ inner. source_in_row split long from c.args.outer c.loop-along.along inner)
          c.loop-along.along split.inner c.args.made.now.items c.loop-along.made.items _ (run_of_places split long from c.args.outer c.loop-along.along) c.loop-along.invariant.items c.push_run.ensures.items;
    }
