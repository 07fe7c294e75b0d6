use Rattle.apl_execute.proofs.Mentions.{has_step, mention_step}
use Rattle.apl_execute.proofs.merging.each_once.Goals as goal

pub loop-name-preserved : goal.loop-name-preserved
loop-name-preserved c =
    let name = c.name-item.result in
    let adds = c.in_ok-new.ensures.added in
    let among = c.loop-name.invariant.has name in
    record {
      once = mention_step c.args.names.now c.loop-name.name-index name _ _ _ _ c.loop-name-test.true c.name-item.is c.loop-name.invariant.once among adds c.in_ok-mention.ensures;
      has = λ asked. has_step name asked _ _ _ _ _ _ (c.in_ok-new.ensures.updates.0 asked) (c.loop-name.invariant.has asked) among adds c.in_ok-mention.ensures;
    }
