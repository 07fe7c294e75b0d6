use Rattle.std.proofs.Common.{◌<◌, subst}
use Rattle.apl_items.specs.Places.{OnWantOfMemory}
use Rattle.apl_statements.specs.Interpreter.{PlainInterpreter}
use Rattle.apl_calls.proofs.Lines.{line_comes}
use Rattle.apl_calls.proofs.calling.begin_line_there.Goals as goal

pub returns-clause-comes : goal.returns-clause-comes
returns-clause-comes c =
    line_comes c.args.interpreter.now c.stand_at_line.new.interpreter c.begin_text_of_line.new.interpreter c.args.number c.begin_text_of_line.result c.stand_at_line.ensures c.requires c.begin_text_of_line.ensures.comes

pub returns-clause-memory : goal.returns-clause-memory
returns-clause-memory c =
    subst (λ (x : PlainInterpreter). OnWantOfMemory c.begin_text_of_line.result (0 < x.statements)) c.stand_at_line.ensures c.begin_text_of_line.ensures.memory
