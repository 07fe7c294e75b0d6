use Rattle.std.proofs.Common.{◌≡◌, ◌<◌, ◌≤◌, true, List, ◌∷◌, length, refl, sym, ap, subst, ◌∙◌}
use Rattle.std.specs.Prelude.{map}
use Rattle.apl_workspace.specs.Limits.{most_depth, most_weight}
use Rattle.apl_workspace.specs.Workspace.{empty_workspace, look, with_frame, workspace_weight}
use Rattle.apl_meaning.specs.Calls.{entering}
use Rattle.apl_values.specs.Values.{settled}
use Rattle.apl_statements.specs.declared.evaluation.Evaluation.{Evaluation}
use Rattle.apl_statements.specs.Evaluating.{caller_of, function_by, takes_by}
use Rattle.apl_statements.specs.Interpreter.{PlainInterpreter, here}
use Rattle.apl_statements.specs.Moves.{Does}
use Rattle.apl_statements.specs.Sound.{IsCaller}
use Rattle.apl_statements.specs.Stack.{PlainWaiting, at_line}
use Rattle.apl_statements.specs.Holding.{IsWithValues}
use Rattle.apl_statements.specs.Work.{parts_left}
use Rattle.apl_statements.proofs.Renewing.{settled_sound}
use Rattle.apl_calls.specs.Waitings.{StandsOver}
use Rattle.apl_calls.proofs.CalledHere.{settled_parts}
use Rattle.apl_calls.proofs.Enters.{settled_enters}
use Rattle.apl_calls.proofs.called.enter_here.Goals as goal

pub enter-requires-clause-settled : goal.enter-requires-clause-settled
enter-requires-clause-settled c =
    let m : PlainInterpreter = c.args.interpreter.now in
    let before : Evaluation = c.args.e.now in
    let with : IsWithValues before (map (settled m.workspace) before.values.items) c.settle.new.self =
    subst (λ (x : PlainInterpreter). IsWithValues before (map (settled x.workspace) before.values.items) c.settle.new.self) c.interpreter.view_is c.in_ok-settle.ensures in
    subst (λ (e : Evaluation). IsCaller empty_workspace e) (sym c.replace-caller.ensures.value) (settled_sound m.workspace empty_workspace before c.settle.new.self c.requires.sound with)

pub enter-requires-clause-takes : goal.enter-requires-clause-takes
enter-requires-clause-takes c = subst (λ (x : PlainInterpreter). takes_by (look x.workspace c.args.name) c.args.args ≡ true) (sym c.stand_in.ensures) c.requires.takes

pub enter-requires-clause-shallow : goal.enter-requires-clause-shallow
enter-requires-clause-shallow c = subst (λ (x : PlainInterpreter). length x.workspace.frames < most_depth) (sym c.stand_in.ensures) c.requires.shallow

pub enter-requires-clause-fits : goal.enter-requires-clause-fits
enter-requires-clause-fits c = subst (λ (x : PlainInterpreter). workspace_weight (with_frame x.workspace c.args.name c.args.args) ≤ most_weight) (sym c.stand_in.ensures) c.requires.fits

pub returns-clause-moves : goal.returns-clause-moves
returns-clause-moves c =
    let m : PlainInterpreter = c.args.interpreter.now in
    let mid : PlainInterpreter = c.enter.new.interpreter in
    let before : Evaluation = c.args.e.now in
    let caller : Evaluation = c.replace-caller.result in
    let with : IsWithValues before (map (settled m.workspace) before.values.items) caller =
    subst (IsWithValues before (map (settled m.workspace) before.values.items)) (sym c.replace-caller.ensures.value)
    (subst (λ (x : PlainInterpreter). IsWithValues before (map (settled x.workspace) before.values.items) c.settle.new.self) c.interpreter.view_is c.in_ok-settle.ensures) in
    let done : Does m (λ s. entering c.args.name c.args.args s) mid = subst (λ (x : PlainInterpreter). Does x (λ s. entering c.args.name c.args.args s) mid) c.stand_in.ensures c.in_ok-enter.ensures.done in
    let stacked : mid.stack ≡ at_line (function_by (look m.workspace c.args.name)) 0 (caller_of empty_workspace (here m) caller) ∷ m.stack =
    subst (λ (x : PlainInterpreter). mid.stack ≡ at_line (function_by (look x.workspace c.args.name)) 0 (caller_of empty_workspace (here x) caller) ∷ x.stack) c.stand_in.ensures c.in_ok-enter.ensures.stack in
    settled_enters m mid before caller c.args.name c.args.args c.requires.takes with done stacked

pub returns-clause-waits : goal.returns-clause-waits
returns-clause-waits c =
    let m : PlainInterpreter = c.args.interpreter.now in
    let mid : PlainInterpreter = c.enter.new.interpreter in
    let before : Evaluation = c.args.e.now in
    let caller : Evaluation = c.replace-caller.result in
    let with : IsWithValues before (map (settled m.workspace) before.values.items) caller =
    subst (IsWithValues before (map (settled m.workspace) before.values.items)) (sym c.replace-caller.ensures.value)
    (subst (λ (x : PlainInterpreter). IsWithValues before (map (settled x.workspace) before.values.items) c.settle.new.self) c.interpreter.view_is c.in_ok-settle.ensures) in
    let stacked : mid.stack ≡ at_line (function_by (look m.workspace c.args.name)) 0 (caller_of empty_workspace (here m) caller) ∷ m.stack =
    subst (λ (x : PlainInterpreter). mid.stack ≡ at_line (function_by (look x.workspace c.args.name)) 0 (caller_of empty_workspace (here x) caller) ∷ x.stack) c.stand_in.ensures c.in_ok-enter.ensures.stack in
    subst (λ (ws : List PlainWaiting). StandsOver m.stack (parts_left before) ws) (sym stacked) (refl, settled_parts empty_workspace (here m) before caller (map (settled m.workspace) before.values.items) with)

pub returns-clause-statements : goal.returns-clause-statements
returns-clause-statements c =
    ap (λ (x : PlainInterpreter). x.statements) c.in_ok-enter.ensures.beside ∙ ap (λ (x : PlainInterpreter). x.statements) c.stand_in.ensures
