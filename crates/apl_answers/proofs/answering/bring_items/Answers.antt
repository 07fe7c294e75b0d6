use Rattle.std.proofs.Common.{◌≡◌, ◌≤◌, List, refl, subst, sym}
use Rattle.std.specs.Prelude.{IfSome, IsSome, Option, Some}
use Rattle.std.proofs.lemmas.Result.{err_from_is_err_and}
use Rattle.apl_selection.proofs.WantLemmas.{on_want}
use Rattle.apl_arrays.specs.Array.{PlainArray}
use Rattle.apl_arrays.specs.declared.report.Report.TheVariants.{Value}
use Rattle.apl_items.specs.Places.{OnWantOfMemory}
use Rattle.apl_workspace.specs.Limits.{most_weight}
use Rattle.apl_workspace.specs.Workspace.{workspace_weight}
use Rattle.sv_events.specs.Answer.{plain_answer}
use Rattle.sv_events.specs.Row.{answer_row}
use Rattle.apl_meaning.specs.Answers.{with_copy}
use Rattle.apl_meaning.specs.State.{and_then}
use Rattle.apl_values.specs.Pending.{brought, replaced, replaces}
use Rattle.apl_values.proofs.Seen.{renewed, got_value}
use Rattle.apl_statements.specs.Interpreter.{PlainInterpreter}
use Rattle.apl_statements.specs.Moves.{part_gives}
use Rattle.apl_statements.proofs.Renewing.{settled_sound}
use Rattle.apl_statements.proofs.Same.{comes_as}
use Rattle.apl_statements.proofs.Wants.{want_exit}
use Rattle.apl_answers.proofs.Answered.{goes_far, items_got}
use Rattle.apl_answers.proofs.answering.bring_items.Goals as goal

pub replace_items-requires-clause-sound : goal.replace_items-requires-clause-sound
replace_items-requires-clause-sound c = settled_sound c.args.interpreter.now.workspace c.renew.new.interpreter.workspace c.args.e c.renew.new.e c.requires.sound c.in_ok-renew.ensures.settled

pub returns-clause-comes : goal.returns-clause-comes
returns-clause-comes c =
    let m : PlainInterpreter = c.args.interpreter.now in
    let n : PlainInterpreter = c.renew.new.interpreter in
    let o : PlainInterpreter = c.replace_items.new.interpreter in
    let subs : List (Option PlainArray) = c.args.subs.items in
    let value : PlainArray = c.in_ok-value_in.field-0 in
    let found : Option PlainArray = (answer_row (plain_answer c.args.answer)).value in
    comes_as m o (part_gives m c.args.e (brought (replaces c.args.name subs c.args.right) (plain_answer c.args.answer)))
    (part_gives m c.args.e (λ s. and_then (with_copy c.args.name value s) (λ _ t. replaced c.args.name subs c.args.right value t))) 0 c.replace_items.result
    (items_got m c.args.e c.args.name subs c.args.right value (plain_answer c.args.answer) (got_value found Value value c.in_ok-value_in.ensures))
    (goes_far m n o (renewed c.args.name value m.workspace) c.args.e c.renew.new.e (with_copy c.args.name value) (λ s. replaced c.args.name subs c.args.right value s) c.replace_items.result
    c.in_ok-renew.ensures.ok c.in_ok-renew.ensures.done c.in_ok-renew.ensures.settled (c.replace_items.ensures.comes value c.in_ok-renew.ensures.seen))

pub returns-in_err-renew-clause-memory : goal.returns-in_err-renew-clause-memory
returns-in_err-renew-clause-memory c =
    let value : PlainArray = c.in_ok-value_in.field-0 in
    let found : Option PlainArray = (answer_row (plain_answer c.args.answer)).value in
    let is : found ≡ Some value = got_value found Value value c.in_ok-value_in.ensures in
    on_want c.from_residual-in_err-renew.result (IsSome found) (subst (λ (o : Option PlainArray). IsSome o) (sym is) refl)

pub returns-clause-memory : goal.returns-clause-memory
returns-clause-memory c =
    let value : PlainArray = c.in_ok-value_in.field-0 in
    let found : Option PlainArray = (answer_row (plain_answer c.args.answer)).value in
    let is : found ≡ Some value = got_value found Value value c.in_ok-value_in.ensures in
    on_want c.replace_items.result (IsSome found) (subst (λ (o : Option PlainArray). IsSome o) (sym is) refl)

pub returns-in_err-renew-clause-room : goal.returns-in_err-renew-clause-room
returns-in_err-renew-clause-room c =
    let own : PlainArray = c.in_ok-value_in.field-0 in
    let found : Option PlainArray = (answer_row (plain_answer c.args.answer)).value in
    let is : found ≡ Some own = got_value found Value own c.in_ok-value_in.ensures in
    let exit = err_from_is_err_and c.from_residual-in_err-renew.result c.from_residual-in_err-renew.ensures.1 in
    let why : exit.0 ≡ c.in_err-renew.field-0.0 = cc exit.2 in
    subst (λ (o : Option PlainArray). OnWantOfMemory c.from_residual-in_err-renew.result (IfSome o (λ copy. workspace_weight (renewed c.args.name copy c.args.interpreter.now.workspace) ≤ most_weight))) (sym is)
    (want_exit c.from_residual-in_err-renew.result exit.0 c.in_err-renew.field-0.0 (workspace_weight (renewed c.args.name own c.args.interpreter.now.workspace) ≤ most_weight) exit.1 why c.in_err-renew.ensures.room)

pub returns-clause-room : goal.returns-clause-room
returns-clause-room c =
    let own : PlainArray = c.in_ok-value_in.field-0 in
    let found : Option PlainArray = (answer_row (plain_answer c.args.answer)).value in
    let is : found ≡ Some own = got_value found Value own c.in_ok-value_in.ensures in
    subst (λ (o : Option PlainArray). OnWantOfMemory c.replace_items.result (IfSome o (λ copy. workspace_weight (renewed c.args.name copy c.args.interpreter.now.workspace) ≤ most_weight))) (sym is) (on_want c.replace_items.result _ c.in_ok-renew.ensures.fits)
