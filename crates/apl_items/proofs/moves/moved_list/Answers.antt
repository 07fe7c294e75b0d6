use Rattle.std.proofs.Common.{◌≡◌, ◌+◌, ap, ◌∙◌, arith}
use Rattle.apl_items.proofs.MoveLemmas.{moved_list_more}
use Rattle.apl_items.proofs.moves.moved_list.Goals as goal

pub loop-place-preserved : goal.loop-place-preserved
loop-place-preserved g c =
    let walk = c.loop-place.invariant in
    let source = g.W.Walk.source c.args.walk in
    record {
      whole = omega arith;
      room = omega arith;
      items = c.push_reserved.ensures.items ∙ moved_list_more c.args.fill c.args.list.now source c.loop-place._place _ _ _ walk.items (c.advance-source.ensures.value ∙ walk.ahead 0) c.item_at_source.ensures;
      left = omega (arith, walk.left, c.advance-source.ensures.left);
      ahead = λ n. let e : c.loop-place._place + (n + 1) ≡ (c.loop-place._place + 1) + n = omega arith in c.advance-source.ensures.rest n ∙ walk.ahead (n + 1) ∙ ap source e;
    }
