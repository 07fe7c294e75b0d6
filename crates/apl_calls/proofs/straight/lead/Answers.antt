use Rattle.std.proofs.Common.{◌≡◌, ◌-◌, List, length, sym, ap, ◌∙◌}
use Rattle.std.specs.Prelude.{Some, Result, Ok, option_map, slice_get}
use Rattle.std.proofs.lemmas.Result.{err_from_is_err_and}
use Rattle.apl_arrays.specs.declared.report.Fail.{Fail}
use Rattle.apl_statements.specs.declared.flow.Flow.TheVariants as flow
use Rattle.apl_statements.specs.declared.waiting.Waiting.{Waiting}
use Rattle.apl_statements.specs.Evaluating.{plain_next}
use Rattle.apl_statements.specs.Interpreter.{PlainInterpreter}
use Rattle.apl_statements.specs.Stack.{PlainWaiting, from_line}
use Rattle.apl_statements.proofs.Same.{comes_exit}
use Rattle.apl_calls.specs.WentOn.{gone_on}
use Rattle.apl_calls.proofs.Innermost.{number_of_last}
use Rattle.apl_calls.proofs.Lines.{follows_comes}
use Rattle.apl_calls.proofs.straight.lead.Goals as goal

pub returns-in_err-begin_or_leave-in-Some-clause-comes : goal.returns-in_err-begin_or_leave-in-Some-clause-comes
returns-in_err-begin_or_leave-in-Some-clause-comes c = λ some.
    let m : PlainInterpreter = c.args.interpreter.now in
    let n : PlainInterpreter = c.begin_or_leave.new.interpreter in
    let callers : List Waiting = c.interpreter.inside.callers.items in
    let waiting : Waiting = c.in-Some.waiting.now in
    let last : slice_get callers (length callers - 1) ≡ Some waiting = ap (λ (list : List Waiting). slice_get list (length list - 1)) (sym c.deref.ensures.value) ∙ sym c.in-Some.ensures.value in
    let number : Some waiting.number ≡ option_map (λ (p : PlainWaiting). p.number) (slice_get m.stack 0) =
    number_of_last c.interpreter.inside.workspace c.interpreter.inside.input.items callers waiting last ∙ ap (λ (x : PlainInterpreter). option_map (λ (p : PlainWaiting). p.number) (slice_get x.stack 0)) c.interpreter.view_is in
    let exit = err_from_is_err_and c.from_residual.result c.from_residual.ensures.1 in
    follows_comes m n waiting.number c.following-number.result (plain_next c.args.next) (gone_on c.begin_or_leave.new.e c.from_residual.result) number c.following-number.ensures
    (comes_exit m n (from_line m.stack c.following-number.result) 0 (gone_on c.begin_or_leave.new.e c.from_residual.result) exit.0 c.in_err-begin_or_leave-in-Some.field-0.0 (ap (λ (r : Result _ Fail). gone_on c.begin_or_leave.new.e r) exit.1) exit.2 c.in_err-begin_or_leave-in-Some.ensures.comes)

pub returns-in_ok-begin_or_leave-in-Some-clause-comes : goal.returns-in_ok-begin_or_leave-in-Some-clause-comes
returns-in_ok-begin_or_leave-in-Some-clause-comes c = λ some.
    let m : PlainInterpreter = c.args.interpreter.now in
    let n : PlainInterpreter = c.begin_or_leave.new.interpreter in
    let callers : List Waiting = c.interpreter.inside.callers.items in
    let waiting : Waiting = c.in-Some.waiting.now in
    let last : slice_get callers (length callers - 1) ≡ Some waiting = ap (λ (list : List Waiting). slice_get list (length list - 1)) (sym c.deref.ensures.value) ∙ sym c.in-Some.ensures.value in
    let number : Some waiting.number ≡ option_map (λ (p : PlainWaiting). p.number) (slice_get m.stack 0) =
    number_of_last c.interpreter.inside.workspace c.interpreter.inside.input.items callers waiting last ∙ ap (λ (x : PlainInterpreter). option_map (λ (p : PlainWaiting). p.number) (slice_get x.stack 0)) c.interpreter.view_is in
    follows_comes m n waiting.number c.following-number.result (plain_next c.args.next) (Ok (flow.Evaluates c.begin_or_leave.new.e)) number c.following-number.ensures c.in_ok-begin_or_leave-in-Some.ensures.comes
