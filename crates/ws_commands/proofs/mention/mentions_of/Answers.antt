use Rattle.std.proofs.Common.{refl}
use Rattle.apl_workspace.proofs.NameLaw.{has_more}
use Rattle.ws_commands.proofs.Mentions.{one_mention_more}
use Rattle.ws_commands.proofs.mention.mentions_of.Goals as goal

pub loop-name-preserved : goal.loop-name-preserved
loop-name-preserved c =
    let names = c.args.names.now in
    let at = c.loop-name.name-index in
    let name = c.name-item.result in
    record {
      so = one_mention_more names at name c.loop-name.mentions.items c.push.new.self.items _ _ _ c.loop-name-test.true c.name-item.is c.loop-name.invariant.so (c.loop-name.invariant.has name) c.in_ok-new.ensures.added refl c.in_ok-push.ensures.items;
      has = λ asked. has_more names at name asked _ _ c.loop-name-test.true c.name-item.is (c.in_ok-new.ensures.updates.0 asked) (c.loop-name.invariant.has asked);
    }
