use Rattle.std.proofs.Common.{sym, ◌∙◌}
use Rattle.apl_statements.specs.Evaluating.{evaluation_of}
use Rattle.apl_statements.specs.Interpreter.{PlainInterpreter}
use Rattle.apl_statements.specs.Stack.{onward}
use Rattle.apl_calls.proofs.Lines.{left_there}
use Rattle.apl_calls.proofs.straight.begin_or_leave.Goals as goal

pub returns-in_ok-leave_here-clause-comes : goal.returns-in_ok-leave_here-clause-comes
returns-in_ok-leave_here-clause-comes c =
    let n : PlainInterpreter = c.leave_here.new.interpreter in
    left_there c.args.interpreter.now n c.args.number (λ s. onward (evaluation_of n.workspace c.leave_here.new.e) n.stack s) (sym c.has_line.ensures ∙ c.if-has_line.false) c.in_ok-leave_here.ensures.comes
