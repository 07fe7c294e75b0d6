use Rattle.std.proofs.Common.{◌≡◌, ◌≤◌, true, List, [], ◌∷◌, refl, sym, ap, subst, ◌∙◌}
use Rattle.std.specs.Prelude.{Err}
use Rattle.std.proofs.lemmas.Result.{err_from_is_err_and}
use Rattle.apl_arrays.specs.Array.{PlainArray}
use Rattle.apl_arrays.specs.declared.report.Fail.{Fail}
use Rattle.apl_items.specs.Places.{OnWantOfMemory}
use Rattle.apl_workspace.specs.Limits.{most_weight}
use Rattle.apl_workspace.specs.Meaning.{is_shared_meaning}
use Rattle.apl_workspace.specs.Workspace.{assigned, is_assignable, look, workspace_weight}
use Rattle.apl_meaning.specs.Nodes.{assign_step}
use Rattle.apl_values.specs.Pending.{assigned_giving}
use Rattle.apl_values.specs.Values.{stack_value}
use Rattle.apl_statements.specs.declared.evaluation.Evaluation.{Evaluation}
use Rattle.apl_statements.specs.declared.flow.Flow.{Flow}
use Rattle.apl_statements.specs.Interpreter.{PlainInterpreter, state_at}
use Rattle.apl_statements.specs.Moves.{part_gives, part_takes}
use Rattle.apl_statements.specs.Holding.{parts_of, stack_values}
use Rattle.apl_statements.specs.Wants.{NoReportIsDue}
use Rattle.apl_statements.proofs.Held.{taken_one}
use Rattle.apl_statements.proofs.Same.{comes_as, comes_exit}
use Rattle.apl_statements.proofs.Taken.{assign_takes, taken_sound}
use Rattle.apl_statements.proofs.Wants.{want_exit}
use Rattle.apl_answers.proofs.Brings.{not_copied_ends}
use Rattle.apl_answers.proofs.Wanting.{assign_wants, not_copied_takes, not_copied_fits, want_as}
use Rattle.apl_answers.proofs.assigning.assign.Goals as goal
use Rattle.apl_answers.proofs.assigning.assign.Goals.{In_ok-held}

-- the right side, as the statement holds it
abbrev own : In_ok-held → PlainArray
own c = stack_value c.args.interpreter.now.workspace (parts_of c.take.new.self) c.in_ok-held.held

-- it is the newest value
newest : (c : In_ok-held) (value : PlainArray) (values : List PlainArray) → stack_values c.args.interpreter.now.workspace c.args.e ≡ value ∷ values → own c ≡ value
newest c value values are =
    let w = c.args.interpreter.now.workspace in
    let after : Evaluation = c.take.new.self in
    let first : PlainArray = stack_value w (parts_of c.args.e) c.in_ok-held.held in
    let both : first ∷ stack_values w after ≡ value ∷ values = sym (taken_one w c.args.e after c.in_ok-held.held c.take.ensures.same c.in_ok-held.ensures.taken) ∙ are in
    let same : first ≡ value = cc in
    ap (λ (x : Evaluation). stack_value w (parts_of x) c.in_ok-held.held) c.take.ensures.same ∙ same

pub put-requires : goal.put-requires
put-requires c = record { sound = taken_sound c.args.interpreter.now.workspace c.args.e c.take.new.self (c.in_ok-held.held ∷ []) c.take.ensures.same c.in_ok-held.ensures.taken c.requires.sound }

pub returns-clause-comes : goal.returns-clause-comes
returns-clause-comes c =
    let m : PlainInterpreter = c.args.interpreter.now in
    let after : Evaluation = c.take.new.self in
    let right : PlainArray = c.in_ok-right.right in
    comes_as m c.put.new.interpreter (part_takes m c.args.e (assign_step c.args.name)) (part_gives m after (assigned_giving c.args.name right right)) 0 c.put.result (λ asked count taken further.
    assign_takes m c.args.e after c.args.name c.in_ok-held.held right (state_at m asked count taken further) c.take.ensures.same c.in_ok-held.ensures.taken c.in_ok-right.ensures.value) c.put.ensures.comes

pub returns-in_err-right-clause-comes : goal.returns-in_err-right-clause-comes
returns-in_err-right-clause-comes c =
    let m : PlainInterpreter = c.args.interpreter.now in
    let after : Evaluation = c.take.new.self in
    let right : PlainArray = stack_value m.workspace (parts_of after) c.in_ok-held.held in
    let exit = err_from_is_err_and c.from_residual-in_err-right.result c.from_residual-in_err-right.ensures.1 in
    let why : exit.0 ≡ c.in_err-right.field-0.0 = cc exit.2 in
    comes_exit m m (part_takes m c.args.e (assign_step c.args.name)) 0 c.from_residual-in_err-right.result exit.0 c.in_err-right.field-0.0 exit.1 why
    (comes_as m m (part_takes m c.args.e (assign_step c.args.name)) (part_gives m after (assigned_giving c.args.name right right)) 0 (Err c.in_err-right.field-0.0) (λ asked count taken further.
    assign_takes m c.args.e after c.args.name c.in_ok-held.held right (state_at m asked count taken further) c.take.ensures.same c.in_ok-held.ensures.taken refl)
    (not_copied_ends m after c.args.name right c.in_err-right.field-0.0 (is_shared_meaning (look m.workspace c.args.name)) refl c.in_err-right.ensures.shared c.in_err-right.ensures.other))

pub returns-in_err-right-clause-memory : goal.returns-in_err-right-clause-memory
returns-in_err-right-clause-memory c =
    let m : PlainInterpreter = c.args.interpreter.now in
    let right : PlainArray = stack_value m.workspace (parts_of c.take.new.self) c.in_ok-held.held in
    let exit = err_from_is_err_and c.from_residual-in_err-right.result c.from_residual-in_err-right.ensures.1 in
    let why : exit.0 ≡ c.in_err-right.field-0.0 = cc exit.2 in
    want_exit c.from_residual-in_err-right.result exit.0 c.in_err-right.field-0.0 (is_assignable (look m.workspace c.args.name) ≡ true) exit.1 why
    (not_copied_takes PlainArray c.in_err-right.field-0.0 (look m.workspace c.args.name) (assigned m.workspace c.args.name right) (is_shared_meaning (look m.workspace c.args.name)) refl c.in_err-right.ensures.other)

pub returns-in_err-right-clause-room : goal.returns-in_err-right-clause-room
returns-in_err-right-clause-room c = λ apart value values are.
    let m : PlainInterpreter = c.args.interpreter.now in
    let right : PlainArray = stack_value m.workspace (parts_of c.take.new.self) c.in_ok-held.held in
    let exit = err_from_is_err_and c.from_residual-in_err-right.result c.from_residual-in_err-right.ensures.1 in
    let why : exit.0 ≡ c.in_err-right.field-0.0 = cc exit.2 in
    want_exit c.from_residual-in_err-right.result exit.0 c.in_err-right.field-0.0 (workspace_weight (assigned m.workspace c.args.name value) ≤ most_weight) exit.1 why
    (subst (λ (x : PlainArray). OnWantOfMemory {T = PlainArray} (Err c.in_err-right.field-0.0) (workspace_weight (assigned m.workspace c.args.name x) ≤ most_weight))
    (newest (goal.at.returns-in_err-right-clause-room c).In_ok-held value values are)
    (not_copied_fits PlainArray c.in_err-right.field-0.0 (is_assignable (look m.workspace c.args.name)) (assigned m.workspace c.args.name right) (c.in_err-right.ensures.other apart)))

pub returns-clause-room : goal.returns-clause-room
returns-clause-room c = λ apart value values are.
    let m : PlainInterpreter = c.args.interpreter.now in
    let is : c.in_ok-right.right ≡ value = c.in_ok-right.ensures.value ∙ newest (goal.at.returns-clause-room c).In_ok-held value values are in
    subst (λ (x : PlainArray). OnWantOfMemory c.put.result (workspace_weight (assigned m.workspace c.args.name x) ≤ most_weight)) is (c.put.ensures.room apart)

pub returns-in_err-right-clause-due : goal.returns-in_err-right-clause-due
returns-in_err-right-clause-due c =
    let m : PlainInterpreter = c.args.interpreter.now in
    let right : PlainArray = own (goal.at.returns-in_err-right-clause-due c).In_ok-held in
    let why : Fail = c.in_err-right.field-0.0 in
    let exit = err_from_is_err_and c.from_residual-in_err-right.result c.from_residual-in_err-right.ensures.1 in
    let is : exit.0 ≡ why = cc exit.2 in
    want_exit c.from_residual-in_err-right.result exit.0 why (NoReportIsDue m (assign_step c.args.name (stack_values m.workspace c.args.e))) exit.1 is
    (want_as PlainArray Flow why (NoReportIsDue m (assign_step c.args.name (stack_values m.workspace c.args.e)))
    (assign_wants {T = PlainArray} (Err why) m c.args.e c.take.new.self c.args.name c.in_ok-held.held right c.take.ensures.same c.in_ok-held.ensures.taken refl
    (not_copied_takes PlainArray why (look m.workspace c.args.name) (assigned m.workspace c.args.name right) (is_shared_meaning (look m.workspace c.args.name)) refl c.in_err-right.ensures.other)
    (λ apart. not_copied_fits PlainArray why (is_assignable (look m.workspace c.args.name)) (assigned m.workspace c.args.name right) (c.in_err-right.ensures.other apart))))

pub returns-clause-due : goal.returns-clause-due
returns-clause-due c =
    assign_wants c.put.result c.args.interpreter.now c.args.e c.take.new.self c.args.name c.in_ok-held.held c.in_ok-right.right c.take.ensures.same c.in_ok-held.ensures.taken c.in_ok-right.ensures.value c.put.ensures.memory c.put.ensures.room
