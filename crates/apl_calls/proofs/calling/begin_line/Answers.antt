use Rattle.std.proofs.Common.{◌≡◌, false, sym, ◌∙◌}
use Rattle.std.specs.Prelude.{is_some}
use Rattle.apl_statements.specs.Evaluating.{evaluation_of, line_of_innermost}
use Rattle.apl_statements.specs.Interpreter.{PlainInterpreter}
use Rattle.apl_statements.specs.Stack.{onward}
use Rattle.apl_calls.proofs.Lines.{left_there}
use Rattle.apl_calls.proofs.calling.begin_line.Goals as goal

pub returns-then-not-has_line-clause-comes : goal.returns-then-not-has_line-clause-comes
returns-then-not-has_line-clause-comes c =
    let n : PlainInterpreter = c.leave.new.interpreter in
    left_there c.args.interpreter.now n c.args.number (λ s. onward (evaluation_of n.workspace c.in_ok-leave.field-0) n.stack s) (sym c.has_line.ensures ∙ c.if-not-has_line.true) c.in_ok-leave.ensures.comes

pub returns-in_err-leave-clause-memory : goal.returns-in_err-leave-clause-memory
returns-in_err-leave-clause-memory c some =
    let none : is_some (line_of_innermost c.args.interpreter.now.stack c.args.number) ≡ false = sym c.has_line.ensures ∙ c.if-not-has_line.true in absurd (cc)
