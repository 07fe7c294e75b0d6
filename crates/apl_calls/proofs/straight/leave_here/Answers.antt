use Rattle.std.proofs.Common.{sym, subst}
use Rattle.apl_statements.specs.declared.evaluation.Evaluation.{Evaluation}
use Rattle.apl_statements.specs.Evaluating.{evaluation_of}
use Rattle.apl_statements.specs.Interpreter.{PlainInterpreter}
use Rattle.apl_statements.specs.Moves.{Moves}
use Rattle.apl_statements.specs.Stack.{from_end, onward}
use Rattle.apl_calls.proofs.straight.leave_here.Goals as goal

-- the caller takes the place of the statement
pub returns-clause-comes : goal.returns-clause-comes
returns-clause-comes c =
    let m : PlainInterpreter = c.args.interpreter.now in
    let n : PlainInterpreter = c.leave.new.interpreter in
    subst (λ (x : PlainInterpreter). Moves m (from_end m.stack) 0 x (λ s. onward (evaluation_of x.workspace c.replace-over.new.dest) x.stack s)) (sym c.give_room.ensures)
    (subst (λ (e : Evaluation). Moves m (from_end m.stack) 0 n (λ s. onward (evaluation_of n.workspace e) n.stack s)) (sym c.replace-over.ensures.after) c.in_ok-caller.ensures.comes)
