use Rattle.std.proofs.Common.{◌∙◌, arith}
use Rattle.apl_items.specs.Along.{source_in_row}
use Rattle.apl_items.proofs.AlongLemmas.{one_item_more}
use Rattle.apl_items.proofs.along.push_run.Goals as goal

pub loop-inner-preserved : goal.loop-inner-preserved
loop-inner-preserved g c =
    let rule = c.args.rule.now in
    record {
      whole = omega (arith, c.push_reserved.ensures.len, c.loop-inner.invariant.whole);
      room = c.push_reserved.ensures.capacity ∙ c.loop-inner.invariant.room;
      items = one_item_more c.args.fill c.args.list.now (λ inner. source_in_row c.args.split (g.R.Along.length rule) (g.R.Along.from rule) c.args.outer c.args.along inner) c.loop-inner.inner
          c.args.made.now.items c.loop-inner.made.items _ c.place_of_source-source.result c.item_at_source.result c.loop-inner.invariant.items c.place_of_source-source.ensures.value c.item_at_source.ensures c.push_reserved.ensures.items;
    }
