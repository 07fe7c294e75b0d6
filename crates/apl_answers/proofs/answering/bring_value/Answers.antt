use Rattle.std.proofs.Common.{◌≡◌, ◌≤◌, ap, refl, subst, sym, ◌∙◌}
use Rattle.std.specs.Prelude.{IfSome, IsSome, None, Option, Some}
use Rattle.std.proofs.lemmas.Result.{err_from_is_err_and}
use Rattle.apl_selection.proofs.WantLemmas.{on_want}
use Rattle.apl_arrays.specs.Array.{PlainArray}
use Rattle.apl_arrays.specs.declared.report.Report.TheVariants.{Value}
use Rattle.sv_events.specs.Answer.{plain_answer}
use Rattle.sv_events.specs.Row.{answer_row}
use Rattle.apl_items.specs.Places.{OnWantOfMemory}
use Rattle.apl_workspace.specs.Limits.{most_weight}
use Rattle.apl_workspace.specs.Workspace.{look, workspace_weight}
use Rattle.apl_meaning.specs.Answers.{got, with_copy}
use Rattle.apl_meaning.specs.Deeds.{value_of}
use Rattle.apl_meaning.specs.Expressions.{valued}
use Rattle.apl_meaning.specs.State.{and_then, gives}
use Rattle.apl_values.specs.declared.values.StackValue.TheVariants as held
use Rattle.apl_values.proofs.Seen.{renewed, got_value}
use Rattle.apl_statements.specs.declared.evaluation.Evaluation.{Evaluation}
use Rattle.apl_statements.specs.Interpreter.{PlainInterpreter}
use Rattle.apl_statements.specs.Moves.{part_gives}
use Rattle.apl_statements.specs.Holding.{parts_of}
use Rattle.apl_statements.proofs.Renewing.{settled_sound}
use Rattle.apl_statements.proofs.Same.{comes_as}
use Rattle.apl_statements.proofs.Wants.{want_exit}
use Rattle.apl_answers.proofs.Behind.{gets, given_value, goes_behind}
use Rattle.apl_answers.proofs.Replacing.{got_as}
use Rattle.apl_answers.proofs.answering.bring_value.Goals as goal

pub give-requires-clause-sound : goal.give-requires-clause-sound
give-requires-clause-sound c = settled_sound c.args.interpreter.now.workspace c.renew.new.interpreter.workspace c.args.e c.renew.new.e c.requires.sound c.in_ok-renew.ensures.settled

pub returns-clause-comes : goal.returns-clause-comes
returns-clause-comes c =
    let m : PlainInterpreter = c.args.interpreter.now in
    let n : PlainInterpreter = c.renew.new.interpreter in
    let after : Evaluation = c.renew.new.e in
    let value : PlainArray = c.in_ok-value_in.field-0 in
    let found : Option PlainArray = (answer_row (plain_answer c.args.answer)).value in
    let seen : value_of (look n.workspace c.args.name) ≡ Some value = ap value_of c.in_ok-renew.ensures.seen in
    comes_as m n (part_gives m c.args.e (λ s. valued (got c.args.name found s))) (part_gives m c.args.e (λ s. and_then (with_copy c.args.name value s) (λ _ t. gives (Some value) t))) 0 c.give.result
    (got_as m c.args.e c.args.name found value (got_value found Value value c.in_ok-value_in.ensures))
    (goes_behind m n (renewed c.args.name value m.workspace) c.args.e after (with_copy c.args.name value) (λ s. gives (Some value) s) c.give.result
    c.in_ok-renew.ensures.ok c.in_ok-renew.ensures.done c.in_ok-renew.ensures.settled
    (gets n after (held.Named c.args.name) value c.give.result (given_value n.workspace (parts_of after) c.args.name None value seen) c.give.ensures.comes))

pub returns-in_err-renew-clause-memory : goal.returns-in_err-renew-clause-memory
returns-in_err-renew-clause-memory c =
    let value : PlainArray = c.in_ok-value_in.field-0 in
    let found : Option PlainArray = (answer_row (plain_answer c.args.answer)).value in
    let is : found ≡ Some value = got_value found Value value c.in_ok-value_in.ensures in
    on_want c.from_residual-in_err-renew.result (IsSome found) (subst (λ (o : Option PlainArray). IsSome o) (sym is) refl)

pub returns-clause-memory : goal.returns-clause-memory
returns-clause-memory c =
    let value : PlainArray = c.in_ok-value_in.field-0 in
    let found : Option PlainArray = (answer_row (plain_answer c.args.answer)).value in
    let is : found ≡ Some value = got_value found Value value c.in_ok-value_in.ensures in
    on_want c.give.result (IsSome found) (subst (λ (o : Option PlainArray). IsSome o) (sym is) refl)

pub returns-in_err-renew-clause-room : goal.returns-in_err-renew-clause-room
returns-in_err-renew-clause-room c =
    let own : PlainArray = c.in_ok-value_in.field-0 in
    let found : Option PlainArray = (answer_row (plain_answer c.args.answer)).value in
    let is : found ≡ Some own = got_value found Value own c.in_ok-value_in.ensures in
    let exit = err_from_is_err_and c.from_residual-in_err-renew.result c.from_residual-in_err-renew.ensures.1 in
    let why : exit.0 ≡ c.in_err-renew.field-0.0 = cc exit.2 in
    subst (λ (o : Option PlainArray). OnWantOfMemory c.from_residual-in_err-renew.result (IfSome o (λ copy. workspace_weight (renewed c.args.name copy c.args.interpreter.now.workspace) ≤ most_weight))) (sym is)
    (want_exit c.from_residual-in_err-renew.result exit.0 c.in_err-renew.field-0.0 (workspace_weight (renewed c.args.name own c.args.interpreter.now.workspace) ≤ most_weight) exit.1 why c.in_err-renew.ensures.room)

pub returns-clause-room : goal.returns-clause-room
returns-clause-room c =
    let own : PlainArray = c.in_ok-value_in.field-0 in
    let found : Option PlainArray = (answer_row (plain_answer c.args.answer)).value in
    let is : found ≡ Some own = got_value found Value own c.in_ok-value_in.ensures in
    subst (λ (o : Option PlainArray). OnWantOfMemory c.give.result (IfSome o (λ copy. workspace_weight (renewed c.args.name copy c.args.interpreter.now.workspace) ≤ most_weight))) (sym is) (on_want c.give.result _ c.in_ok-renew.ensures.fits)
