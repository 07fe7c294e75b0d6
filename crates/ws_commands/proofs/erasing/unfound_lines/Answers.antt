use Rattle.std.proofs.Common.{[]}
use Rattle.ws_commands.specs.Names.{unfound}
use Rattle.ws_commands.proofs.Mentions.{lines_more}
use Rattle.ws_commands.proofs.erasing.unfound_lines.Goals as goal

pub loop-mention-preserved : goal.loop-mention-preserved
loop-mention-preserved c =
    lines_more (unfound c.args.ws.now) c.deref-mention-items.result.now c.loop-mention.mention-index c.mention-item.result [] c.loop-mention.lines.items c.add_unfound.new.lines.items c.loop-mention-test.true c.mention-item.is c.loop-mention.invariant c.in_ok-add_unfound.ensures
