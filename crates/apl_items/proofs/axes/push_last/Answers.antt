use Rattle.std.proofs.Common.{◌∙◌, ap, arith}
use Rattle.apl_items.specs.Axes.{added}
use Rattle.apl_items.proofs.AlongLemmas.{one_item_more}
use Rattle.apl_items.proofs.axes.push_last.Goals as goal

pub loop-along-preserved : goal.loop-along-preserved
loop-along-preserved g c =
    let offset = g.X.Axes.offset c.args.axes.now c.args.axis in
    record {
      whole = omega (arith, c.push_reserved.ensures.len, c.loop-along.invariant.whole);
      room = c.push_reserved.ensures.capacity ∙ c.loop-along.invariant.room;
      items = one_item_more c.args.fill c.args.list.now (λ along. added c.args.base (offset along)) c.loop-along.along c.args.made.now.items c.loop-along.made.items _ c.together-source.result c.item_at_source.result
          c.loop-along.invariant.items (c.together-source.ensures ∙ ap (added c.args.base) c.offset.ensures.value) c.item_at_source.ensures c.push_reserved.ensures.items;
    }
