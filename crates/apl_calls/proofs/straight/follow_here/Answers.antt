use Rattle.apl_statements.specs.declared.evaluation.Evaluation.{Evaluation}
use Rattle.apl_statements.specs.Evaluating.{evaluation_of, plain_next, plain_purpose}
use Rattle.apl_statements.specs.Interpreter.{PlainInterpreter, state_at}
use Rattle.apl_statements.specs.Moves.{Coming, value_put}
use Rattle.apl_statements.specs.Stack.{behind, onward}
use Rattle.apl_statements.proofs.Moving.{comes_after}
use Rattle.apl_statements.proofs.Same.{comes_as}
use Rattle.apl_calls.specs.WentOn.{gone_on}
use Rattle.apl_calls.proofs.Falling.{ends_there}
use Rattle.apl_calls.proofs.FollowedHere.{followed}
use Rattle.apl_calls.proofs.straight.follow_here.Goals as goal

pub returns-in-Some-clause-comes : goal.returns-in-Some-clause-comes
returns-in-Some-clause-comes c =
    let m : PlainInterpreter = c.args.interpreter.now in
    let n : PlainInterpreter = c.lead.new.interpreter in
    let e : Evaluation = c.args.e.now in
    let put : Coming = value_put m e (plain_purpose e.purpose) in
    let led : Coming = λ s. behind m.stack (plain_next c.in-Some.next) s in
    followed m n e c.lead.new.e c.lead.result c.lead.ensures.left (λ some.
    comes_as m n (λ s. onward (evaluation_of m.workspace e) m.stack s) put 0 (gone_on c.lead.new.e c.lead.result) (λ asked count taken further. ends_there m e (state_at m asked count taken further) c.requires.over)
    (comes_after m m n put led 0 (gone_on c.lead.new.e c.lead.result) c.in-Some.ensures (c.lead.ensures.comes some)))
