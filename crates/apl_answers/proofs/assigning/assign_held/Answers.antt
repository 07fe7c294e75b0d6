use Rattle.std.proofs.Common.{◌≡◌, ◌≤◌, ◌++◌, true, List, [], ◌∷◌, refl, sym, ap, subst, ◌∙◌}
use Rattle.std.specs.Prelude.{Option, Some, Result, Ok, Err, is_some, unwrap_or}
use Rattle.std.proofs.lemmas.List.Elements.{All-push}
use Rattle.std.proofs.lemmas.Result.{err_from_is_err_and}
use Rattle.apl_arrays.specs.Array.{PlainArray}
use Rattle.apl_arrays.specs.declared.report.Fail.{Fail}
use Rattle.apl_items.specs.Places.{OnWantOfMemory}
use Rattle.apl_selection.proofs.WantLemmas.{on_want}
use Rattle.apl_workspace.specs.Limits.{most_weight}
use Rattle.apl_workspace.specs.Meaning.{is_shared_meaning}
use Rattle.apl_workspace.specs.Workspace.{assigned, is_assignable, look, workspace_weight}
use Rattle.apl_meaning.specs.Deeds.{value_of}
use Rattle.apl_meaning.specs.Nodes.{assign_step}
use Rattle.apl_meaning.specs.State.{gives}
use Rattle.apl_meaning.specs.Variables.{assignment}
use Rattle.apl_values.specs.declared.values.StackValue.TheVariants as held
use Rattle.apl_values.specs.Pending.{assigned_giving}
use Rattle.apl_values.specs.Values.{IsStackValue, no_array, stack_value}
use Rattle.apl_statements.specs.declared.evaluation.Evaluation.{Evaluation}
use Rattle.apl_statements.specs.declared.flow.Flow.{Flow}
use Rattle.apl_statements.specs.declared.flow.Flow.TheVariants as flow
use Rattle.apl_statements.specs.Interpreter.{PlainInterpreter, state_at}
use Rattle.apl_statements.specs.Moves.{part_gives, part_takes}
use Rattle.apl_statements.specs.Sound.{IsCaller}
use Rattle.apl_statements.specs.Holding.{parts_of, stack_values}
use Rattle.apl_statements.specs.Wants.{NoReportIsDue}
use Rattle.apl_statements.proofs.Gives.{push_comes, with_values_sound}
use Rattle.apl_statements.proofs.Held.{taken_one}
use Rattle.apl_statements.proofs.Renewing.{settled_sound}
use Rattle.apl_statements.proofs.Same.{comes_as, comes_exit}
use Rattle.apl_statements.proofs.Taken.{assign_takes, taken_sound}
use Rattle.apl_statements.proofs.Wants.{want_exit}
use Rattle.apl_answers.specs.WentOn.{went_on}
use Rattle.apl_answers.proofs.Behind.{gets, goes_behind}
use Rattle.apl_answers.proofs.Brings.{assigned_value, not_copied_ends}
use Rattle.apl_answers.proofs.Wanting.{assign_wants, given_takes, not_copied_fits, not_copied_takes, want_as}
use Rattle.apl_answers.proofs.assigning.assign_held.Goals as goal
use Rattle.apl_answers.proofs.assigning.assign_held.Goals.{In_ok-assign_value, In_ok-held}

-- the right side, as the statement holds it
abbrev own : In_ok-held → PlainArray
own c = stack_value c.args.interpreter.now.workspace (parts_of c.take.new.self) c.in_ok-held.held

-- it is the newest value
newest : (c : In_ok-held) (value : PlainArray) (values : List PlainArray) → stack_values c.args.interpreter.now.workspace c.args.e.now ≡ value ∷ values → own c ≡ value
newest c value values are =
    let w = c.args.interpreter.now.workspace in
    let after : Evaluation = c.take.new.self in
    let first : PlainArray = stack_value w (parts_of c.args.e.now) c.in_ok-held.held in
    let both : first ∷ stack_values w after ≡ value ∷ values = sym (taken_one w c.args.e.now after c.in_ok-held.held c.take.ensures.same c.in_ok-held.ensures.taken) ∙ are in
    let same : first ≡ value = cc in
    ap (λ (x : Evaluation). stack_value w (parts_of x) c.in_ok-held.held) c.take.ensures.same ∙ same

pub assign_value-requires-clause-sound : goal.assign_value-requires-clause-sound
assign_value-requires-clause-sound c = taken_sound c.args.interpreter.now.workspace c.args.e.now c.take.new.self (c.in_ok-held.held ∷ []) c.take.ensures.same c.in_ok-held.ensures.taken c.requires.sound

pub returns-in_err-right-clause-comes : goal.returns-in_err-right-clause-comes
returns-in_err-right-clause-comes c =
    let m : PlainInterpreter = c.args.interpreter.now in
    let after : Evaluation = c.take.new.self in
    let right : PlainArray = stack_value m.workspace (parts_of after) c.in_ok-held.held in
    let exit = err_from_is_err_and c.from_residual-in_err-right.result c.from_residual-in_err-right.ensures.1 in
    let why : exit.0 ≡ c.in_err-right.field-0.0 = cc exit.2 in
    comes_exit m m (part_takes m c.args.e.now (assign_step c.args.name)) 0 (went_on after c.from_residual-in_err-right.result) exit.0 c.in_err-right.field-0.0 (ap (λ (r : Result (Unit {0}) Fail). went_on after r) exit.1) why
    (comes_as m m (part_takes m c.args.e.now (assign_step c.args.name)) (part_gives m after (assigned_giving c.args.name right right)) 0 (Err c.in_err-right.field-0.0) (λ asked count taken further.
    assign_takes m c.args.e.now after c.args.name c.in_ok-held.held right (state_at m asked count taken further) c.take.ensures.same c.in_ok-held.ensures.taken refl)
    (not_copied_ends m after c.args.name right c.in_err-right.field-0.0 (is_shared_meaning (look m.workspace c.args.name)) refl c.in_err-right.ensures.shared c.in_err-right.ensures.other))

pub returns-in_err-right-clause-memory : goal.returns-in_err-right-clause-memory
returns-in_err-right-clause-memory c =
    let m : PlainInterpreter = c.args.interpreter.now in
    let exit = err_from_is_err_and c.from_residual-in_err-right.result c.from_residual-in_err-right.ensures.1 in
    let why : exit.0 ≡ c.in_err-right.field-0.0 = cc exit.2 in
    want_exit c.from_residual-in_err-right.result exit.0 c.in_err-right.field-0.0 (is_assignable (look m.workspace c.args.name) ≡ true) exit.1 why
    (not_copied_takes PlainArray c.in_err-right.field-0.0 (look m.workspace c.args.name) (assigned m.workspace c.args.name (own (goal.at.returns-in_err-right-clause-memory c).In_ok-held)) (is_shared_meaning (look m.workspace c.args.name)) refl c.in_err-right.ensures.other)

pub returns-in_err-right-clause-room : goal.returns-in_err-right-clause-room
returns-in_err-right-clause-room c = λ value values are.
    let m : PlainInterpreter = c.args.interpreter.now in
    let right : PlainArray = own (goal.at.returns-in_err-right-clause-room c).In_ok-held in
    let exit = err_from_is_err_and c.from_residual-in_err-right.result c.from_residual-in_err-right.ensures.1 in
    let why : exit.0 ≡ c.in_err-right.field-0.0 = cc exit.2 in
    want_exit c.from_residual-in_err-right.result exit.0 c.in_err-right.field-0.0 (workspace_weight (assigned m.workspace c.args.name value) ≤ most_weight) exit.1 why
    (subst (λ (x : PlainArray). OnWantOfMemory {T = PlainArray} (Err c.in_err-right.field-0.0) (workspace_weight (assigned m.workspace c.args.name x) ≤ most_weight))
    (newest (goal.at.returns-in_err-right-clause-room c).In_ok-held value values are)
    (not_copied_fits PlainArray c.in_err-right.field-0.0 (is_assignable (look m.workspace c.args.name)) (assigned m.workspace c.args.name right) (c.in_err-right.ensures.other c.requires.unshared)))

pub returns-in_err-assign_value-clause-memory : goal.returns-in_err-assign_value-clause-memory
returns-in_err-assign_value-clause-memory c =
    let exit = err_from_is_err_and c.from_residual-in_err-assign_value.result c.from_residual-in_err-assign_value.ensures.1 in
    let why : exit.0 ≡ c.in_err-assign_value.field-0.0 = cc exit.2 in
    want_exit c.from_residual-in_err-assign_value.result exit.0 c.in_err-assign_value.field-0.0 (is_assignable (look c.args.interpreter.now.workspace c.args.name) ≡ true) exit.1 why c.in_err-assign_value.ensures.memory

pub returns-in_err-assign_value-clause-room : goal.returns-in_err-assign_value-clause-room
returns-in_err-assign_value-clause-room c = λ value values are.
    let m : PlainInterpreter = c.args.interpreter.now in
    let exit = err_from_is_err_and c.from_residual-in_err-assign_value.result c.from_residual-in_err-assign_value.ensures.1 in
    let why : exit.0 ≡ c.in_err-assign_value.field-0.0 = cc exit.2 in
    let is : c.in_ok-right.right ≡ value = c.in_ok-right.ensures.value ∙ newest (goal.at.returns-in_err-assign_value-clause-room c).In_ok-held value values are in
    want_exit c.from_residual-in_err-assign_value.result exit.0 c.in_err-assign_value.field-0.0 (workspace_weight (assigned m.workspace c.args.name value) ≤ most_weight) exit.1 why
    (subst (λ (x : PlainArray). OnWantOfMemory {T = Unit {0}} (Err c.in_err-assign_value.field-0.0) (workspace_weight (assigned m.workspace c.args.name x) ≤ most_weight)) is c.in_err-assign_value.ensures.room)

pub returns-in_err-push-clause-memory : goal.returns-in_err-push-clause-memory
returns-in_err-push-clause-memory c =
    let m : PlainInterpreter = c.args.interpreter.now in
    on_want c.from_residual-in_err-push.result _ (given_takes m c.assign_value.new.interpreter c.args.name c.in_ok-right.right (look m.workspace c.args.name) refl c.in_ok-assign_value.ensures.done)

pub returns-in_err-push-clause-room : goal.returns-in_err-push-clause-room
returns-in_err-push-clause-room c = λ value values are.
    let m : PlainInterpreter = c.args.interpreter.now in
    let is : c.in_ok-right.right ≡ value = c.in_ok-right.ensures.value ∙ newest (goal.at.returns-in_err-push-clause-room c).In_ok-held value values are in
    on_want c.from_residual-in_err-push.result _ (subst (λ (x : PlainArray). workspace_weight (assigned m.workspace c.args.name x) ≤ most_weight) is c.in_ok-assign_value.ensures.fits)

-- ---- no report was due

pub returns-in_err-right-clause-due : goal.returns-in_err-right-clause-due
returns-in_err-right-clause-due c =
    let m : PlainInterpreter = c.args.interpreter.now in
    let right : PlainArray = own (goal.at.returns-in_err-right-clause-due c).In_ok-held in
    let why : Fail = c.in_err-right.field-0.0 in
    let exit = err_from_is_err_and c.from_residual-in_err-right.result c.from_residual-in_err-right.ensures.1 in
    let is : exit.0 ≡ why = cc exit.2 in
    want_exit c.from_residual-in_err-right.result exit.0 why (NoReportIsDue m (assign_step c.args.name (stack_values m.workspace c.args.e.now))) exit.1 is
    (want_as PlainArray (Unit {0}) why (NoReportIsDue m (assign_step c.args.name (stack_values m.workspace c.args.e.now)))
    (assign_wants {T = PlainArray} (Err why) m c.args.e.now c.take.new.self c.args.name c.in_ok-held.held right c.take.ensures.same c.in_ok-held.ensures.taken refl
    (not_copied_takes PlainArray why (look m.workspace c.args.name) (assigned m.workspace c.args.name right) (is_shared_meaning (look m.workspace c.args.name)) refl c.in_err-right.ensures.other)
    (λ apart. not_copied_fits PlainArray why (is_assignable (look m.workspace c.args.name)) (assigned m.workspace c.args.name right) (c.in_err-right.ensures.other apart))))

pub returns-in_err-assign_value-clause-due : goal.returns-in_err-assign_value-clause-due
returns-in_err-assign_value-clause-due c =
    let m : PlainInterpreter = c.args.interpreter.now in
    let why : Fail = c.in_err-assign_value.field-0.0 in
    let exit = err_from_is_err_and c.from_residual-in_err-assign_value.result c.from_residual-in_err-assign_value.ensures.1 in
    let is : exit.0 ≡ why = cc exit.2 in
    want_exit c.from_residual-in_err-assign_value.result exit.0 why (NoReportIsDue m (assign_step c.args.name (stack_values m.workspace c.args.e.now))) exit.1 is
    (assign_wants {T = Unit {0}} (Err why) m c.args.e.now c.take.new.self c.args.name c.in_ok-held.held c.in_ok-right.right c.take.ensures.same c.in_ok-held.ensures.taken c.in_ok-right.ensures.value c.in_err-assign_value.ensures.memory (λ apart. c.in_err-assign_value.ensures.room))

pub returns-in_err-push-clause-due : goal.returns-in_err-push-clause-due
returns-in_err-push-clause-due c =
    let m : PlainInterpreter = c.args.interpreter.now in
    let r = c.from_residual-in_err-push.result in
    assign_wants r m c.args.e.now c.take.new.self c.args.name c.in_ok-held.held c.in_ok-right.right c.take.ensures.same c.in_ok-held.ensures.taken c.in_ok-right.ensures.value
    (on_want r _ (given_takes m c.assign_value.new.interpreter c.args.name c.in_ok-right.right (look m.workspace c.args.name) refl c.in_ok-assign_value.ensures.done))
    (λ apart. on_want r _ c.in_ok-assign_value.ensures.fits)

-- the statement waits still, with settled values
waits : (c : In_ok-assign_value) → IsCaller c.assign_value.new.interpreter.workspace c.assign_value.new.e
waits c =
    let m : PlainInterpreter = c.args.interpreter.now in
    let before : Evaluation = c.take.new.self in
    settled_sound m.workspace c.assign_value.new.interpreter.workspace before c.assign_value.new.e (taken_sound m.workspace c.args.e.now before (c.in_ok-held.held ∷ []) c.take.ensures.same c.in_ok-held.ensures.taken c.requires.sound) c.in_ok-assign_value.ensures.settled

-- the name has the value
has : (c : In_ok-assign_value) → value_of (look c.assign_value.new.interpreter.workspace c.args.name) ≡ Some c.in_ok-right.right
has c = ap (λ (x : PlainInterpreter). value_of (look x.workspace c.args.name)) c.in_ok-assign_value.ensures.ok ∙ ap value_of (assigned_value c.args.interpreter.now.workspace c.args.name c.in_ok-right.right)

pub returns-clause-sound : goal.returns-clause-sound
returns-clause-sound c =
    let n : PlainInterpreter = c.assign_value.new.interpreter in
    let after : Evaluation = c.assign_value.new.e in
    let sound : IsCaller n.workspace after = waits (goal.at.returns-clause-sound c).In_ok-assign_value in
    with_values_sound n.workspace after c.push.new.self (after.values.items ++ held.Named c.args.name ∷ []) sound.evaluation
    (All-push (IsStackValue n.workspace (parts_of after)) after.values.items (held.Named c.args.name) sound.evaluation.values (ap (λ (found : Option PlainArray). is_some found) (has (goal.at.returns-clause-sound c).In_ok-assign_value))) c.in_ok-push.ensures

pub returns-clause-comes : goal.returns-clause-comes
returns-clause-comes c =
    let m : PlainInterpreter = c.args.interpreter.now in
    let n : PlainInterpreter = c.assign_value.new.interpreter in
    let before : Evaluation = c.take.new.self in
    let after : Evaluation = c.assign_value.new.e in
    let right : PlainArray = c.in_ok-right.right in
    let next : Result Flow Fail = Ok (flow.Evaluates c.push.new.self) in
    let seen : value_of (look n.workspace c.args.name) ≡ Some right = has (goal.at.returns-clause-comes c).In_ok-assign_value in
    comes_as m n (part_takes m c.args.e.now (assign_step c.args.name)) (part_gives m before (assigned_giving c.args.name right right)) 0 next (λ asked count taken further.
    assign_takes m c.args.e.now before c.args.name c.in_ok-held.held right (state_at m asked count taken further) c.take.ensures.same c.in_ok-held.ensures.taken c.in_ok-right.ensures.value)
    (goes_behind m n (assigned m.workspace c.args.name right) before after (assignment c.args.name right) (λ s. gives (Some right) s) next c.in_ok-assign_value.ensures.ok c.in_ok-assign_value.ensures.done c.in_ok-assign_value.ensures.settled
    (gets n after (held.Named c.args.name) right next (ap (λ (found : Option PlainArray). unwrap_or found no_array) seen) (push_comes n after c.push.new.self (held.Named c.args.name) (waits (goal.at.returns-clause-comes c).In_ok-assign_value) c.in_ok-push.ensures)))
