use Rattle.std.proofs.Common.{◌≡◌, ◌≤◌, sym, ap, subst, ◌∙◌}
use Rattle.std.specs.Prelude.{Some, unwrap_or}
use Rattle.std.proofs.lemmas.Result.{err_from_is_err_and}
use Rattle.apl_selection.proofs.WantLemmas.{on_want}
use Rattle.apl_arrays.specs.Array.{PlainArray}
use Rattle.apl_workspace.specs.Limits.{most_weight}
use Rattle.apl_workspace.specs.Workspace.{look, workspace_weight}
use Rattle.apl_meaning.specs.Answers.{with_copy}
use Rattle.apl_meaning.specs.Deeds.{value_of}
use Rattle.apl_meaning.specs.State.{gives}
use Rattle.apl_values.specs.declared.values.StackValue.{StackValue}
use Rattle.apl_values.specs.Values.{IsStackValue, stack_value}
use Rattle.apl_values.proofs.Seen.{renewed}
use Rattle.apl_statements.specs.declared.evaluation.Evaluation.{Evaluation}
use Rattle.apl_statements.specs.Interpreter.{PlainInterpreter}
use Rattle.apl_statements.specs.Holding.{parts_of}
use Rattle.apl_statements.proofs.Renewing.{settled_sound}
use Rattle.apl_statements.proofs.Wants.{want_exit}
use Rattle.apl_answers.proofs.Behind.{gets, given_is_held, given_value, goes_behind}
use Rattle.apl_answers.proofs.answering.bring_grant.Goals as goal

pub give-requires-clause-sound : goal.give-requires-clause-sound
give-requires-clause-sound c = settled_sound c.args.interpreter.now.workspace c.renew.new.interpreter.workspace c.args.e c.renew.new.e c.requires.sound c.in_ok-renew.ensures.settled

pub give-requires-clause-value : goal.give-requires-clause-value
give-requires-clause-value c =
    let n : PlainInterpreter = c.renew.new.interpreter in
    let seen : value_of (look n.workspace c.args.name) ≡ Some c.args.value = ap value_of c.in_ok-renew.ensures.seen in
    subst (λ (h : StackValue). IsStackValue n.workspace (parts_of c.renew.new.e) h) (sym c.given.ensures) (given_is_held n.workspace (parts_of c.renew.new.e) c.args.name c.args.gives c.args.value seen)

pub returns-clause-comes : goal.returns-clause-comes
returns-clause-comes c =
    let m : PlainInterpreter = c.args.interpreter.now in
    let n : PlainInterpreter = c.renew.new.interpreter in
    let after : Evaluation = c.renew.new.e in
    let other : PlainArray = unwrap_or c.args.gives c.args.value in
    let seen : value_of (look n.workspace c.args.name) ≡ Some c.args.value = ap value_of c.in_ok-renew.ensures.seen in
    goes_behind m n (renewed c.args.name c.args.value m.workspace) c.args.e after (with_copy c.args.name c.args.value) (λ s. gives (Some other) s) c.give.result
    c.in_ok-renew.ensures.ok c.in_ok-renew.ensures.done c.in_ok-renew.ensures.settled
    (gets n after c.given.result other c.give.result
    (ap (stack_value n.workspace (parts_of after)) c.given.ensures ∙ given_value n.workspace (parts_of after) c.args.name c.args.gives c.args.value seen) c.give.ensures.comes)

pub returns-in_err-renew-clause-room : goal.returns-in_err-renew-clause-room
returns-in_err-renew-clause-room c =
    let exit = err_from_is_err_and c.from_residual.result c.from_residual.ensures.1 in
    let why : exit.0 ≡ c.in_err-renew.field-0.0 = cc exit.2 in
    want_exit c.from_residual.result exit.0 c.in_err-renew.field-0.0 (workspace_weight (renewed c.args.name c.args.value c.args.interpreter.now.workspace) ≤ most_weight) exit.1 why c.in_err-renew.ensures.room

pub returns-clause-room : goal.returns-clause-room
returns-clause-room c = on_want c.give.result _ c.in_ok-renew.ensures.fits
