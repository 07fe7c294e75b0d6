use Rattle.std.proofs.Common.{sym, subst}
use Rattle.std.specs.Prelude.{IfOk}
use Rattle.apl_statements.specs.Evaluating.{plain_purpose}
use Rattle.apl_statements.specs.Interpreter.{PlainInterpreter}
use Rattle.apl_statements.specs.Moves.{Comes, value_put}
use Rattle.apl_statements.specs.Sound.{IsFlow}
use Rattle.apl_statements.specs.Work.{Falls}
use Rattle.apl_calls.proofs.ending.end_statement.Goals as goal

-- the list of values goes to the interpreter, which is seen as before
pub returns-clause-comes : goal.returns-clause-comes
returns-clause-comes c =
    let m : PlainInterpreter = c.args.interpreter.now in
    subst (λ (n : PlainInterpreter). Comes m (value_put m c.args.e (plain_purpose c.args.e.purpose)) 0 n c.put_value-ended.result) (sym c.give_room.ensures) c.put_value-ended.ensures.comes

pub returns-clause-sound : goal.returns-clause-sound
returns-clause-sound c = subst (λ (n : PlainInterpreter). IfOk c.put_value-ended.result (IsFlow n)) (sym c.give_room.ensures) c.put_value-ended.ensures.sound

pub returns-clause-falls : goal.returns-clause-falls
returns-clause-falls c = subst (λ (n : PlainInterpreter). IfOk c.put_value-ended.result (Falls c.args.interpreter.now n)) (sym c.give_room.ensures) c.put_value-ended.ensures.falls
