use Rattle.std.proofs.Common.{◌≡◌, ◌≤◌, true, [], ◌∷◌, sym, ap, subst, ◌∙◌, w64}
use Rattle.std.specs.Prelude.{Err}
use Rattle.std.proofs.lemmas.Int.{to_z-of_z}
use Rattle.std.proofs.lemmas.Result.{err_from_is_err_and}
use Rattle.apl_arrays.specs.Array.{PlainArray, scalar}
use Rattle.apl_items.specs.Places.{OnWantOfMemory}
use Rattle.apl_workspace.specs.Limits.{most_weight}
use Rattle.apl_workspace.specs.Workspace.{assigned, is_assignable, look, workspace_weight}
use Rattle.apl_values.specs.declared.values.StackValue.TheVariants as held
use Rattle.apl_meaning.specs.Nodes.{assign_step}
use Rattle.apl_statements.specs.Holding.{stack_values}
use Rattle.apl_statements.specs.Interpreter.{PlainInterpreter}
use Rattle.apl_statements.specs.Wants.{NoReportIsDue}
use Rattle.apl_statements.proofs.Wants.{want_exit}
use Rattle.apl_answers.proofs.Numbers.{alone_assigned, alone_newest, alone_sound, alone_wants}
use Rattle.apl_answers.proofs.assigning.assign_number.Goals as goal
use Rattle.apl_answers.proofs.assigning.assign_number.Goals.{After-of_number}

-- all that the statement holds
holds : (c : After-of_number) → c.args.e.now.values.items ≡ held.Made c.of_number.result ∷ []
holds c =
    let is : c.of_number.result ≡ scalar c.args.number = c.of_number.ensures ∙ ap scalar (to_z-of_z w64 c.args.number c.ranges.number) in
    subst (λ (a : PlainArray). c.args.e.now.values.items ≡ held.Made a ∷ []) (sym is) c.requires.number

pub returns-clause-comes : goal.returns-clause-comes
returns-clause-comes c =
    alone_assigned c.args.interpreter.now c.assign_settled.new.interpreter c.args.e.now c.args.name.now c.of_number.result (holds (goal.at.returns-clause-comes c).After-of_number) c.requires.sound c.in_ok-assign_settled.ensures.ok c.in_ok-assign_settled.ensures.done

pub returns-clause-sound : goal.returns-clause-sound
returns-clause-sound c =
    alone_sound c.args.interpreter.now.workspace c.assign_settled.new.interpreter.workspace c.args.e.now c.of_number.result (holds (goal.at.returns-clause-sound c).After-of_number) c.requires.sound

pub returns-in_err-assign_settled-clause-memory : goal.returns-in_err-assign_settled-clause-memory
returns-in_err-assign_settled-clause-memory c =
    let exit = err_from_is_err_and c.from_residual.result c.from_residual.ensures.1 in
    let why : exit.0 ≡ c.in_err-assign_settled.field-0.0 = cc exit.2 in
    want_exit c.from_residual.result exit.0 c.in_err-assign_settled.field-0.0 (is_assignable (look c.args.interpreter.now.workspace c.args.name.now) ≡ true) exit.1 why c.in_err-assign_settled.ensures.memory

pub returns-in_err-assign_settled-clause-room : goal.returns-in_err-assign_settled-clause-room
returns-in_err-assign_settled-clause-room c = λ value values are.
    let m : PlainInterpreter = c.args.interpreter.now in
    let exit = err_from_is_err_and c.from_residual.result c.from_residual.ensures.1 in
    let why : exit.0 ≡ c.in_err-assign_settled.field-0.0 = cc exit.2 in
    want_exit c.from_residual.result exit.0 c.in_err-assign_settled.field-0.0 (workspace_weight (assigned m.workspace c.args.name.now value) ≤ most_weight) exit.1 why
    (subst (λ (x : PlainArray). OnWantOfMemory {T = Unit {0}} (Err c.in_err-assign_settled.field-0.0) (workspace_weight (assigned m.workspace c.args.name.now x) ≤ most_weight))
    (alone_newest m.workspace c.args.e.now c.of_number.result value values (holds (goal.at.returns-in_err-assign_settled-clause-room c).After-of_number) are) c.in_err-assign_settled.ensures.room)

pub returns-in_err-assign_settled-clause-due : goal.returns-in_err-assign_settled-clause-due
returns-in_err-assign_settled-clause-due c =
    let m : PlainInterpreter = c.args.interpreter.now in
    let exit = err_from_is_err_and c.from_residual.result c.from_residual.ensures.1 in
    let why : exit.0 ≡ c.in_err-assign_settled.field-0.0 = cc exit.2 in
    want_exit c.from_residual.result exit.0 c.in_err-assign_settled.field-0.0 (NoReportIsDue m (assign_step c.args.name.now (stack_values m.workspace c.args.e.now))) exit.1 why
    (alone_wants {T = Unit {0}} (Err c.in_err-assign_settled.field-0.0) m c.args.e.now c.args.name.now c.of_number.result (holds (goal.at.returns-in_err-assign_settled-clause-due c).After-of_number) c.in_err-assign_settled.ensures.memory c.in_err-assign_settled.ensures.room)
