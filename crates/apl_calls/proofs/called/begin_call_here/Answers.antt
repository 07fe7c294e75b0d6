use Rattle.std.proofs.Common.{◌≡◌, sym, ap, ◌∙◌}
use Rattle.std.specs.Prelude.{Result, Ok, Err}
use Rattle.std.proofs.lemmas.Result.{err_from_is_err_and}
use Rattle.apl_arrays.specs.declared.report.Fail.{Fail}
use Rattle.apl_meaning.specs.Calls.{call}
use Rattle.apl_meaning.specs.Meaning.{ran}
use Rattle.apl_statements.specs.declared.evaluation.Evaluation.{Evaluation}
use Rattle.apl_statements.specs.declared.flow.Flow.TheVariants as flow
use Rattle.apl_statements.specs.Evaluating.{evaluation_of}
use Rattle.apl_statements.specs.Interpreter.{PlainInterpreter}
use Rattle.apl_statements.specs.Moves.{Coming, part_gives}
use Rattle.apl_statements.specs.Stack.{from_line, onward}
use Rattle.apl_statements.specs.Work.{parts_left}
use Rattle.apl_statements.proofs.Moving.{comes_after}
use Rattle.apl_statements.proofs.Same.{comes_exit}
use Rattle.apl_calls.specs.WentOn.{gone_on}
use Rattle.apl_calls.proofs.CalledHere.{falls_here, some_stand, stays_here}
use Rattle.apl_calls.proofs.Lines.{left_there}
use Rattle.apl_calls.proofs.called.begin_call_here.Goals as goal

pub returns-in_err-begin_here-clause-comes : goal.returns-in_err-begin_here-clause-comes
returns-in_err-begin_here-clause-comes c =
    let m : PlainInterpreter = c.args.interpreter.now in
    let mid : PlainInterpreter = c.enter_here.new.interpreter in
    let n : PlainInterpreter = c.begin_here.new.interpreter in
    let coming : Coming = part_gives m c.args.e.now (λ s. call ran c.args.name c.args.args s) in
    let why : Fail = c.in_err-begin_here.field-0.0 in
    let exit = err_from_is_err_and c.from_residual-in_err-begin_here.result c.from_residual-in_err-begin_here.ensures.1 in
    comes_exit m n coming 0 (gone_on c.begin_here.new.e c.from_residual-in_err-begin_here.result) exit.0 why (ap (λ (r : Result _ Fail). gone_on c.begin_here.new.e r) exit.1) exit.2
    (comes_after m mid n coming (from_line mid.stack 1) 0 (Err why) c.in_ok-enter_here.ensures.moves c.in_err-begin_here.ensures.comes)

pub returns-in_ok-begin_here-clause-comes : goal.returns-in_ok-begin_here-clause-comes
returns-in_ok-begin_here-clause-comes c =
    let m : PlainInterpreter = c.args.interpreter.now in
    let mid : PlainInterpreter = c.enter_here.new.interpreter in
    let coming : Coming = part_gives m c.args.e.now (λ s. call ran c.args.name c.args.args s) in
    comes_after m mid c.begin_here.new.interpreter coming (from_line mid.stack 1) 0 (Ok (flow.Evaluates c.begin_here.new.e)) c.in_ok-enter_here.ensures.moves c.in_ok-begin_here.ensures.comes

pub returns-in_ok-begin_here-clause-falls : goal.returns-in_ok-begin_here-clause-falls
returns-in_ok-begin_here-clause-falls c = λ is.
    falls_here c.args.interpreter.now c.enter_here.new.interpreter c.begin_here.new.interpreter (parts_left c.args.e.now) c.in_ok-enter_here.ensures.waits c.in_ok-enter_here.ensures.statements c.in_ok-begin_here.ensures.falls

pub leave_here-requires : goal.leave_here-requires
leave_here-requires c = record { some = some_stand c.args.interpreter.now.stack (parts_left c.args.e.now) c.enter_here.new.interpreter.stack c.in_ok-enter_here.ensures.waits }

pub returns-in_ok-leave_here-clause-comes : goal.returns-in_ok-leave_here-clause-comes
returns-in_ok-leave_here-clause-comes c =
    let m : PlainInterpreter = c.args.interpreter.now in
    let mid : PlainInterpreter = c.enter_here.new.interpreter in
    let n : PlainInterpreter = c.leave_here.new.interpreter in
    let e : Evaluation = c.leave_here.new.e in
    let coming : Coming = part_gives m c.args.e.now (λ s. call ran c.args.name c.args.args s) in
    comes_after m mid n coming (from_line mid.stack 1) 0 (Ok (flow.Evaluates e)) c.in_ok-enter_here.ensures.moves
    (left_there mid n 1 (λ s. onward (evaluation_of n.workspace e) n.stack s) (sym c.has_line.ensures ∙ c.if-has_line.false) c.in_ok-leave_here.ensures.comes)

pub returns-in_ok-leave_here-clause-stays : goal.returns-in_ok-leave_here-clause-stays
returns-in_ok-leave_here-clause-stays c = λ is.
    stays_here c.args.interpreter.now c.enter_here.new.interpreter c.leave_here.new.interpreter c.leave_here.new.e (parts_left c.args.e.now) c.in_ok-enter_here.ensures.waits c.in_ok-enter_here.ensures.statements c.in_ok-leave_here.ensures.stack c.in_ok-leave_here.ensures.statements c.in_ok-leave_here.ensures.parts
