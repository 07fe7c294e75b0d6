use Rattle.std.proofs.Common.{sym, ap, ◌∙◌, subst}
use Rattle.apl_workspace.specs.Workspace.{IsWorkspace, is_shared, unmarked}
use Rattle.apl_statements.specs.Interpreter.{PlainInterpreter}
use Rattle.apl_statements.proofs.Renewing.{seen_changed, way_changed}
use Rattle.apl_answers.proofs.Shares.{unmarked_keeps_functions}
use Rattle.apl_answers.proofs.changing.unmark.Goals as goal

pub invariant_of-interpreter : goal.invariant_of-interpreter
invariant_of-interpreter c =
    let rules : IsWorkspace c.interpreter.inside.workspace = subst (λ (m : PlainInterpreter). IsWorkspace m.workspace) (sym c.interpreter.view_is) c.rules.ensures in
    let shared = ap (λ (m : PlainInterpreter). is_shared m.workspace c.args.name.now) c.interpreter.view_is ∙ c.requires in
    way_changed c.interpreter.inside.workspace _ c.unmark.new.self _ c.unmark.ensures (unmarked_keeps_functions c.interpreter.inside.workspace c.args.name.now c.args.value rules shared) c.interpreter.invariant

pub returns : goal.returns
returns c =
    let rules : IsWorkspace c.interpreter.inside.workspace = subst (λ (m : PlainInterpreter). IsWorkspace m.workspace) (sym c.interpreter.view_is) c.rules.ensures in
    let shared = ap (λ (m : PlainInterpreter). is_shared m.workspace c.args.name.now) c.interpreter.view_is ∙ c.requires in
    seen_changed c.interpreter.inside c.args.interpreter.now c.unmark.new.self _ c.interpreter.view_is c.unmark.ensures (unmarked_keeps_functions c.interpreter.inside.workspace c.args.name.now c.args.value rules shared)
    ∙ ap (λ (m : PlainInterpreter). record c.args.interpreter.now { workspace = unmarked m.workspace c.args.name.now c.args.value }) c.interpreter.view_is
