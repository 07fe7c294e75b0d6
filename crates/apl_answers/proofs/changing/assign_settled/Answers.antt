use Rattle.std.proofs.Common.{◌≡◌, ◌≤◌, true, subst}
use Rattle.std.specs.Prelude.{OnOk, reverse}
use Rattle.apl_items.specs.Places.{OnWantOfMemory}
use Rattle.apl_workspace.specs.Limits.{most_weight}
use Rattle.apl_workspace.specs.Workspace.{IsWorkspace, PlainWorkspace, assigned, is_assignable, is_there, look, workspace_weight}
use Rattle.apl_statements.specs.Interpreter.{PlainInterpreter}
use Rattle.apl_statements.proofs.Renewing.{seen_if_ok, way_if}
use Rattle.apl_answers.proofs.Granted.{assigned_done, assigned_keeps, inside_rules}
use Rattle.apl_answers.proofs.Wanting.{assigned_room, assigned_want}
use Rattle.apl_answers.proofs.changing.assign_settled.Goals as goal

pub invariant_of-interpreter : goal.invariant_of-interpreter
invariant_of-interpreter c =
    let w : PlainWorkspace = c.interpreter.inside.workspace in
    let rules : IsWorkspace w = inside_rules c.interpreter.inside c.args.interpreter.now c.interpreter.view_is c.rules.ensures in
    way_if c.assign.result w (assigned w c.args.name.now c.args.value) c.assign.new.self (reverse c.interpreter.inside.callers.items) c.assign.ensures.ok c.assign.ensures.err
    (assigned_keeps c.assign.result w c.args.name.now c.args.value rules c.assign.ensures.assignable) c.interpreter.invariant

pub returns-clause-ok : goal.returns-clause-ok
returns-clause-ok c =
    let w : PlainWorkspace = c.interpreter.inside.workspace in
    let rules : IsWorkspace w = inside_rules c.interpreter.inside c.args.interpreter.now c.interpreter.view_is c.rules.ensures in
    seen_if_ok c.assign.result c.interpreter.inside c.args.interpreter.now c.assign.new.self (λ (v : PlainWorkspace). assigned v c.args.name.now c.args.value) c.interpreter.view_is c.assign.ensures.ok
    (assigned_keeps c.assign.result w c.args.name.now c.args.value rules c.assign.ensures.assignable)

pub returns-clause-done : goal.returns-clause-done
returns-clause-done c =
    let w : PlainWorkspace = c.interpreter.inside.workspace in
    let rules : IsWorkspace w = inside_rules c.interpreter.inside c.args.interpreter.now c.interpreter.view_is c.rules.ensures in
    assigned_done c.assign.result c.interpreter.inside c.args.interpreter.now c.assign.new.self c.args.name.now c.args.value (is_there w c.args.name.now) c.interpreter.view_is rules c.requires.unshared
    c.assign.ensures.ok c.assign.ensures.err c.assign.ensures.assignable c.assign.ensures.fits c.assign.ensures.refused

pub returns-clause-memory : goal.returns-clause-memory
returns-clause-memory c =
    let w : PlainWorkspace = c.interpreter.inside.workspace in
    subst (λ (x : PlainInterpreter). OnWantOfMemory c.assign.result (is_assignable (look x.workspace c.args.name.now) ≡ true)) c.interpreter.view_is
    (assigned_want c.assign.result (is_there w c.args.name.now) (is_assignable (look w c.args.name.now)) (assigned w c.args.name.now c.args.value) c.assign.ensures.refused)

pub returns-clause-room : goal.returns-clause-room
returns-clause-room c =
    let w : PlainWorkspace = c.interpreter.inside.workspace in
    subst (λ (x : PlainInterpreter). OnWantOfMemory c.assign.result (workspace_weight (assigned x.workspace c.args.name.now c.args.value) ≤ most_weight)) c.interpreter.view_is
    (assigned_room c.assign.result (is_there w c.args.name.now) (is_assignable (look w c.args.name.now)) (assigned w c.args.name.now c.args.value) c.assign.ensures.refused)

pub returns-clause-fits : goal.returns-clause-fits
returns-clause-fits c =
    subst (λ (x : PlainInterpreter). OnOk c.assign.result (workspace_weight (assigned x.workspace c.args.name.now c.args.value) ≤ most_weight)) c.interpreter.view_is c.assign.ensures.fits
