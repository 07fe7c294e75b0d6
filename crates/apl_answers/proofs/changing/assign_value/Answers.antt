use Rattle.std.proofs.Common.{◌≡◌, ◌≤◌, true, false, refl, subst}
use Rattle.std.specs.Prelude.{Err}
use Rattle.apl_items.specs.Places.{OnWantOfMemory}
use Rattle.apl_meaning.specs.Variables.{assignment}
use Rattle.apl_workspace.specs.Limits.{most_weight}
use Rattle.apl_workspace.specs.Workspace.{IsWorkspace, PlainWorkspace, assigned, is_assignable, look, workspace_weight}
use Rattle.apl_statements.specs.Interpreter.{PlainInterpreter}
use Rattle.apl_statements.specs.Moves.{HasDone}
use Rattle.apl_answers.proofs.Granted.{assigned_done, inside_rules}
use Rattle.apl_answers.proofs.Wanting.{assigned_room, assigned_want}
use Rattle.apl_answers.proofs.changing.assign_value.Goals as goal

pub returns-in-Err-clause-memory : goal.returns-in-Err-clause-memory
returns-in-Err-clause-memory c =
    let w : PlainWorkspace = c.interpreter.inside.workspace in
    subst (λ (x : PlainInterpreter). OnWantOfMemory {T = Unit {0}} (Err c.not_assigned.result) (is_assignable (look x.workspace c.args.name.now) ≡ true)) c.interpreter.view_is
    (assigned_want {T = Unit {0}} (Err c.not_assigned.result) false (is_assignable (look w c.args.name.now)) (assigned w c.args.name.now c.args.value) c.not_assigned.ensures)

pub returns-in-Err-clause-room : goal.returns-in-Err-clause-room
returns-in-Err-clause-room c =
    let w : PlainWorkspace = c.interpreter.inside.workspace in
    subst (λ (x : PlainInterpreter). OnWantOfMemory {T = Unit {0}} (Err c.not_assigned.result) (workspace_weight (assigned x.workspace c.args.name.now c.args.value) ≤ most_weight)) c.interpreter.view_is
    (assigned_room {T = Unit {0}} (Err c.not_assigned.result) false (is_assignable (look w c.args.name.now)) (assigned w c.args.name.now c.args.value) c.not_assigned.ensures)

pub returns-in-Err-clause-done : goal.returns-in-Err-clause-done
returns-in-Err-clause-done c =
    let w : PlainWorkspace = c.interpreter.inside.workspace in
    let rules : IsWorkspace w = inside_rules c.interpreter.inside c.args.interpreter.now c.interpreter.view_is c.rules.ensures in
    subst (λ (x : PlainInterpreter). HasDone {T = Unit {0}} c.args.interpreter.now (assignment c.args.name.now c.args.value) x (Err c.not_assigned.result)) c.interpreter.view_is
    (assigned_done {T = Unit {0}} (Err c.not_assigned.result) c.interpreter.inside c.args.interpreter.now w c.args.name.now c.args.value false c.interpreter.view_is rules c.requires.unshared tt refl tt tt
    c.not_assigned.ensures)
