use Rattle.std.proofs.Common.{◌≡◌, ◌≤◌, false, sym, subst, ◌∙◌}
use Rattle.std.specs.Prelude.{Option, OnOk, reverse}
use Rattle.apl_arrays.specs.Array.{PlainArray}
use Rattle.apl_workspace.specs.Meaning.{is_function_meaning}
use Rattle.apl_workspace.specs.Limits.{most_weight}
use Rattle.apl_workspace.specs.Workspace.{IsWorkspace, PlainWorkspace, global_in, marked, with_global, workspace_weight}
use Rattle.apl_workspace.specs.declared.meaning.Meaning.TheVariants as meaning
use Rattle.apl_workspace.specs.declared.remake.Remake.{Remake}
use Rattle.apl_meaning.specs.Deeds.{value_of}
use Rattle.apl_statements.proofs.Marks.{marked_fits}
use Rattle.apl_statements.proofs.Renewing.{never_full, seen_if_ok, way_if, whenever}
use Rattle.apl_answers.proofs.Granted.{inside_none, inside_rules, marked_keeps}
use Rattle.apl_answers.proofs.changing.mark.Goals as goal

pub invariant_of-interpreter : goal.invariant_of-interpreter
invariant_of-interpreter c =
    let w : PlainWorkspace = c.interpreter.inside.workspace in
    let offer : Remake = record { local = c.args.names.local; surrogate = c.args.names.surrogate; to = c.args.to } in
    let rules : IsWorkspace w = inside_rules c.interpreter.inside c.args.interpreter.now c.interpreter.view_is c.rules.ensures in
    let none : is_function_meaning (global_in w offer.local) ≡ false = inside_none c.interpreter.inside c.args.interpreter.now c.args.names.local c.interpreter.view_is c.requires.no_function in
    way_if c.mark.result w (marked w offer c.in_ok-value.value) c.mark.new.self (reverse c.interpreter.inside.callers.items) c.mark.ensures.ok c.mark.ensures.err
    (whenever c.mark.result (marked_keeps w offer c.in_ok-value.value rules none)) c.interpreter.invariant

pub returns-clause-ok : goal.returns-clause-ok
returns-clause-ok c =
    let w : PlainWorkspace = c.interpreter.inside.workspace in
    let offer : Remake = record { local = c.args.names.local; surrogate = c.args.names.surrogate; to = c.args.to } in
    let rules : IsWorkspace w = inside_rules c.interpreter.inside c.args.interpreter.now c.interpreter.view_is c.rules.ensures in
    let none : is_function_meaning (global_in w offer.local) ≡ false = inside_none c.interpreter.inside c.args.interpreter.now c.args.names.local c.interpreter.view_is c.requires.no_function in
    let own : c.in_ok-value.value ≡ value_of (global_in w offer.local) = c.in_ok-value.ensures ∙ c.global_value.ensures in
    seen_if_ok c.mark.result c.interpreter.inside c.args.interpreter.now c.mark.new.self (λ (v : PlainWorkspace). marked v offer (value_of (global_in v offer.local))) c.interpreter.view_is
    (subst (λ (copy : Option PlainArray). OnOk c.mark.result (c.mark.new.self ≡ marked w offer copy)) own c.mark.ensures.ok)
    (whenever c.mark.result (marked_keeps w offer (value_of (global_in w offer.local)) rules none))

pub returns-clause-err : goal.returns-clause-err
returns-clause-err c =
    let w : PlainWorkspace = c.interpreter.inside.workspace in
    let rules : IsWorkspace w = inside_rules c.interpreter.inside c.args.interpreter.now c.interpreter.view_is c.rules.ensures in
    let none : is_function_meaning (global_in w c.args.names.local) ≡ false = inside_none c.interpreter.inside c.args.interpreter.now c.args.names.local c.interpreter.view_is c.requires.no_function in
    let own : c.in_ok-value.value ≡ value_of (global_in w c.args.names.local) = c.in_ok-value.ensures ∙ c.global_value.ensures in
    never_full c.mark.result (with_global w c.args.names.local (meaning.Shared c.in_ok-value.value)) c.mark.ensures.full
    (subst (λ (copy : Option PlainArray). workspace_weight (with_global w c.args.names.local (meaning.Shared copy)) ≤ most_weight) (sym own) (marked_fits w c.args.names.local rules none))
