use Rattle.std.proofs.Common.{◌≡◌, ◌≤◌, true, refl, sym, ap, subst, ◌∙◌}
use Rattle.std.proofs.lemmas.Bool.{false≢true}
use Rattle.std.proofs.lemmas.Result.{err_from_is_err_and}
use Rattle.std.specs.Prelude.{Some, unwrap_or}
use Rattle.apl_arrays.specs.Array.{PlainArray}
use Rattle.apl_selection.proofs.WantLemmas.{on_want}
use Rattle.apl_workspace.specs.Limits.{most_weight}
use Rattle.apl_workspace.specs.Workspace.{assigned, is_assignable, look, workspace_weight}
use Rattle.apl_meaning.specs.Deeds.{value_of}
use Rattle.apl_meaning.specs.State.{gives}
use Rattle.apl_meaning.specs.Variables.{assignment}
use Rattle.apl_values.specs.declared.values.StackValue.{StackValue}
use Rattle.apl_values.specs.Pending.{act_asked_for, assigned_giving, sets}
use Rattle.apl_values.specs.Values.{IsStackValue, stack_value}
use Rattle.apl_statements.specs.declared.evaluation.Evaluation.{Evaluation}
use Rattle.apl_statements.specs.Interpreter.{PlainInterpreter}
use Rattle.apl_statements.specs.Moves.{part_gives}
use Rattle.apl_statements.specs.Holding.{parts_of}
use Rattle.apl_statements.proofs.Renewing.{settled_sound}
use Rattle.apl_statements.proofs.Same.{comes_as}
use Rattle.apl_answers.proofs.Behind.{gets, given_is_held, given_value, goes_behind, set_stays_open}
use Rattle.apl_statements.proofs.Wants.{want_exit}
use Rattle.apl_answers.proofs.Brings.{assigned_value}
use Rattle.apl_answers.proofs.Wanting.{given_takes, shared_takes}
use Rattle.apl_answers.proofs.assigning.put.Goals as goal

pub returns-then-is_seen_shared-clause-comes : goal.returns-then-is_seen_shared-clause-comes
returns-then-is_seen_shared-clause-comes c =
    let m : PlainInterpreter = c.args.interpreter.now in
    let other : PlainArray = unwrap_or c.args.gives c.args.value in
    comes_as m m (part_gives m c.args.e (assigned_giving c.args.name c.args.value other)) (part_gives m c.args.e (act_asked_for (sets c.args.name c.args.value other))) 0 c.open.result
    (set_stays_open m c.args.e c.args.name c.args.value other (sym c.is_seen_shared.ensures ∙ c.if-is_seen_shared.true)) c.open.ensures.comes

pub give-requires-clause-sound : goal.give-requires-clause-sound
give-requires-clause-sound c = settled_sound c.args.interpreter.now.workspace c.assign_value.new.interpreter.workspace c.args.e c.assign_value.new.e c.requires.sound c.in_ok-assign_value.ensures.settled

pub give-requires-clause-value : goal.give-requires-clause-value
give-requires-clause-value c =
    let m : PlainInterpreter = c.args.interpreter.now in
    let n : PlainInterpreter = c.assign_value.new.interpreter in
    let seen : value_of (look n.workspace c.args.name) ≡ Some c.args.value =
    ap (λ (x : PlainInterpreter). value_of (look x.workspace c.args.name)) c.in_ok-assign_value.ensures.ok ∙ ap value_of (assigned_value m.workspace c.args.name c.args.value) in
    subst (λ (h : StackValue). IsStackValue n.workspace (parts_of c.assign_value.new.e) h) (sym c.given.ensures) (given_is_held n.workspace (parts_of c.assign_value.new.e) c.args.name c.args.gives c.args.value seen)

pub returns-clause-comes : goal.returns-clause-comes
returns-clause-comes c =
    let m : PlainInterpreter = c.args.interpreter.now in
    let n : PlainInterpreter = c.assign_value.new.interpreter in
    let after : Evaluation = c.assign_value.new.e in
    let other : PlainArray = unwrap_or c.args.gives c.args.value in
    let seen : value_of (look n.workspace c.args.name) ≡ Some c.args.value =
    ap (λ (x : PlainInterpreter). value_of (look x.workspace c.args.name)) c.in_ok-assign_value.ensures.ok ∙ ap value_of (assigned_value m.workspace c.args.name c.args.value) in
    goes_behind m n (assigned m.workspace c.args.name c.args.value) c.args.e after (assignment c.args.name c.args.value) (λ s. gives (Some other) s) c.give.result
    c.in_ok-assign_value.ensures.ok c.in_ok-assign_value.ensures.done c.in_ok-assign_value.ensures.settled
    (gets n after c.given.result other c.give.result
    (ap (stack_value n.workspace (parts_of after)) c.given.ensures ∙ given_value n.workspace (parts_of after) c.args.name c.args.gives c.args.value seen) c.give.ensures.comes)

pub returns-then-is_seen_shared-clause-memory : goal.returns-then-is_seen_shared-clause-memory
returns-then-is_seen_shared-clause-memory c = on_want c.open.result _ (shared_takes (look c.args.interpreter.now.workspace c.args.name) (sym c.is_seen_shared.ensures ∙ c.if-is_seen_shared.true))

pub returns-in_err-assign_value-clause-memory : goal.returns-in_err-assign_value-clause-memory
returns-in_err-assign_value-clause-memory c =
    let exit = err_from_is_err_and c.from_residual.result c.from_residual.ensures.1 in
    let why : exit.0 ≡ c.in_err-assign_value.field-0.0 = cc exit.2 in
    want_exit c.from_residual.result exit.0 c.in_err-assign_value.field-0.0 (is_assignable (look c.args.interpreter.now.workspace c.args.name) ≡ true) exit.1 why c.in_err-assign_value.ensures.memory

pub returns-clause-memory : goal.returns-clause-memory
returns-clause-memory c =
    let m : PlainInterpreter = c.args.interpreter.now in
    on_want c.give.result _ (given_takes m c.assign_value.new.interpreter c.args.name c.args.value (look m.workspace c.args.name) refl c.in_ok-assign_value.ensures.done)

pub returns-then-is_seen_shared-clause-room : goal.returns-then-is_seen_shared-clause-room
returns-then-is_seen_shared-clause-room c = λ apart. absurd (false≢true (sym apart ∙ sym c.is_seen_shared.ensures ∙ c.if-is_seen_shared.true))

pub returns-in_err-assign_value-clause-room : goal.returns-in_err-assign_value-clause-room
returns-in_err-assign_value-clause-room c = λ apart.
    let exit = err_from_is_err_and c.from_residual.result c.from_residual.ensures.1 in
    let why : exit.0 ≡ c.in_err-assign_value.field-0.0 = cc exit.2 in
    want_exit c.from_residual.result exit.0 c.in_err-assign_value.field-0.0 (workspace_weight (assigned c.args.interpreter.now.workspace c.args.name c.args.value) ≤ most_weight) exit.1 why c.in_err-assign_value.ensures.room

pub returns-clause-room : goal.returns-clause-room
returns-clause-room c = λ apart. on_want c.give.result _ c.in_ok-assign_value.ensures.fits
