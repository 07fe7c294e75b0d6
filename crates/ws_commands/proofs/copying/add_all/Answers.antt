use Rattle.ws_commands.specs.Library.{left_out}
use Rattle.ws_commands.proofs.Mentions.{lines_more}
use Rattle.ws_commands.proofs.copying.add_all.Goals as goal

pub loop-mention-preserved : goal.loop-mention-preserved
loop-mention-preserved c =
    lines_more (left_out c.args.ws.now c.args.from.now) c.deref-mention-items.result.now c.loop-mention.mention-index c.mention-item.result c.args.lines.now.items c.loop-mention.lines.items c.add_left_out.new.lines.items c.loop-mention-test.true c.mention-item.is c.loop-mention.invariant
    c.in_ok-add_left_out.ensures
