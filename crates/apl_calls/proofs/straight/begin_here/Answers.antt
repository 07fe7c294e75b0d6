use Rattle.apl_calls.specs.WentOn.{gone_on}
use Rattle.apl_calls.proofs.Lines.{line_comes}
use Rattle.apl_calls.proofs.straight.begin_here.Goals as goal

pub returns-clause-comes : goal.returns-clause-comes
returns-clause-comes c =
    line_comes c.args.interpreter.now c.stand_at_line.new.interpreter c.begin_text_here.new.interpreter c.args.number (gone_on c.begin_text_here.new.e c.begin_text_here.result) c.stand_at_line.ensures c.requires c.begin_text_here.ensures.comes
