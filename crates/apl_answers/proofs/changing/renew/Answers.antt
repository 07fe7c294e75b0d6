use Rattle.std.proofs.Common.{◌≡◌, ◌≤◌, true, cond, sym, subst}
use Rattle.std.specs.Prelude.{Err, OnOk, reverse}
use Rattle.apl_arrays.specs.declared.report.Fail.{Fail}
use Rattle.apl_arrays.specs.declared.report.Fail.TheVariants as fail
use Rattle.apl_arrays.specs.declared.report.Report.TheVariants.{WsFull}
use Rattle.apl_items.specs.Places.{OnWantOfMemory}
use Rattle.apl_workspace.specs.Limits.{most_weight}
use Rattle.apl_workspace.specs.Meaning.{is_shared_meaning}
use Rattle.apl_meaning.specs.Answers.{with_copy}
use Rattle.apl_workspace.specs.Workspace.{IsWorkspace, PlainWorkspace, look, workspace_weight}
use Rattle.apl_values.proofs.Seen.{renewed}
use Rattle.apl_statements.specs.Interpreter.{PlainInterpreter}
use Rattle.apl_statements.specs.Moves.{HasDone}
use Rattle.apl_statements.proofs.Marks.{seen_shared}
use Rattle.apl_statements.proofs.Renewing.{seen_if_ok, way_if, whenever}
use Rattle.apl_answers.proofs.Granted.{inside_rules, inside_shared, renewed_done, renewed_keeps, renewed_looks, renewed_not}
use Rattle.apl_answers.proofs.Wanting.{kept_room, renewed_room}
use Rattle.apl_answers.proofs.changing.renew.Goals as goal

pub renew-requires : goal.renew-requires
renew-requires c =
    let w : PlainWorkspace = c.interpreter.inside.workspace in
    let rules : IsWorkspace w = inside_rules c.interpreter.inside c.args.interpreter.now c.interpreter.view_is c.rules.ensures in
    seen_shared w c.args.name.now rules (inside_shared c.interpreter.inside c.args.interpreter.now c.args.name.now c.interpreter.view_is c.requires.seen)

pub invariant_of-interpreter : goal.invariant_of-interpreter
invariant_of-interpreter c =
    let w : PlainWorkspace = c.interpreter.inside.workspace in
    let rules : IsWorkspace w = inside_rules c.interpreter.inside c.args.interpreter.now c.interpreter.view_is c.rules.ensures in
    let shared : is_shared_meaning (look w c.args.name.now) ≡ true = inside_shared c.interpreter.inside c.args.interpreter.now c.args.name.now c.interpreter.view_is c.requires.seen in
    way_if c.renew.result w (renewed c.args.name.now c.args.value w) c.renew.new.self (reverse c.interpreter.inside.callers.items) c.renew.ensures.ok c.renew.ensures.err
    (whenever c.renew.result (renewed_keeps w c.args.name.now c.args.value rules shared)) c.interpreter.invariant

pub returns-in-Ok-clause-ok : goal.returns-in-Ok-clause-ok
returns-in-Ok-clause-ok c =
    let w : PlainWorkspace = c.interpreter.inside.workspace in
    let rules : IsWorkspace w = inside_rules c.interpreter.inside c.args.interpreter.now c.interpreter.view_is c.rules.ensures in
    let shared : is_shared_meaning (look w c.args.name.now) ≡ true = inside_shared c.interpreter.inside c.args.interpreter.now c.args.name.now c.interpreter.view_is c.requires.seen in
    seen_if_ok c.renew.result c.interpreter.inside c.args.interpreter.now c.renew.new.self (renewed c.args.name.now c.args.value) c.interpreter.view_is c.renew.ensures.ok
    (whenever c.renew.result (renewed_keeps w c.args.name.now c.args.value rules shared))

pub returns-in-Ok-clause-done : goal.returns-in-Ok-clause-done
returns-in-Ok-clause-done c =
    let rules : IsWorkspace c.interpreter.inside.workspace = inside_rules c.interpreter.inside c.args.interpreter.now c.interpreter.view_is c.rules.ensures in
    renewed_done c.renew.result c.interpreter.inside c.args.interpreter.now c.renew.new.self c.args.name.now c.args.value c.interpreter.view_is rules c.requires.seen
    c.renew.ensures.ok c.renew.ensures.err c.renew.ensures.fits c.renew.ensures.full

pub returns-in-Ok-clause-seen : goal.returns-in-Ok-clause-seen
returns-in-Ok-clause-seen c =
    let w : PlainWorkspace = c.interpreter.inside.workspace in
    let rules : IsWorkspace w = inside_rules c.interpreter.inside c.args.interpreter.now c.interpreter.view_is c.rules.ensures in
    renewed_looks c.renew.result w c.renew.new.self c.args.name.now c.args.value rules (inside_shared c.interpreter.inside c.args.interpreter.now c.args.name.now c.interpreter.view_is c.requires.seen) c.renew.ensures.ok

pub returns-in-Ok-clause-fits : goal.returns-in-Ok-clause-fits
returns-in-Ok-clause-fits c =
    subst (λ (x : PlainInterpreter). OnOk c.renew.result (workspace_weight (renewed c.args.name.now c.args.value x.workspace) ≤ most_weight)) c.interpreter.view_is c.renew.ensures.fits

pub returns-in-Ok-clause-room : goal.returns-in-Ok-clause-room
returns-in-Ok-clause-room c =
    renewed_room c.renew.result (renewed c.args.name.now c.args.value c.interpreter.inside.workspace) (workspace_weight (renewed c.args.name.now c.args.value c.args.interpreter.now.workspace) ≤ most_weight) c.renew.ensures.full

pub returns-in-Err-clause-done : goal.returns-in-Err-clause-done
returns-in-Err-clause-done c =
    let m : PlainInterpreter = c.args.interpreter.now in
    let rules : IsWorkspace c.interpreter.inside.workspace = inside_rules c.interpreter.inside m c.interpreter.view_is c.rules.ensures in
    subst (λ (f : Fail). HasDone {T = Unit {0}} m (with_copy c.args.name.now c.args.value) m (Err f)) (sym c.not_taken.ensures)
    (subst (λ (x : PlainInterpreter). HasDone {T = Unit {0}} m (with_copy c.args.name.now c.args.value) x (Err (cond c.takes_copy.result fail.WantOfMemory (fail.Report WsFull)))) c.interpreter.view_is
    (renewed_not (Unit {0}) c.interpreter.inside m c.args.name.now c.args.value c.takes_copy.result c.interpreter.view_is rules c.requires.seen c.takes_copy.ensures))

pub returns-in-Err-clause-room : goal.returns-in-Err-clause-room
returns-in-Err-clause-room c =
    let kept : OnWantOfMemory {T = Unit {0}} (Err (cond c.takes_copy.result fail.WantOfMemory (fail.Report WsFull))) (workspace_weight (renewed c.args.name.now c.args.value c.interpreter.inside.workspace) ≤ most_weight) =
    kept_room (Unit {0}) (renewed c.args.name.now c.args.value c.interpreter.inside.workspace) c.takes_copy.result c.takes_copy.ensures in
    subst (λ (f : Fail). OnWantOfMemory {T = Unit {0}} (Err f) (workspace_weight (renewed c.args.name.now c.args.value c.args.interpreter.now.workspace) ≤ most_weight)) (sym c.not_taken.ensures)
    (subst (λ (x : PlainInterpreter). OnWantOfMemory {T = Unit {0}} (Err (cond c.takes_copy.result fail.WantOfMemory (fail.Report WsFull))) (workspace_weight (renewed c.args.name.now c.args.value x.workspace) ≤ most_weight)) c.interpreter.view_is kept)
