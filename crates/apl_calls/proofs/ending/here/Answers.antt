use Rattle.std.proofs.Common.{◌≡◌, ℕ, List, sym, ap, subst, ◌∙◌}
use Rattle.std.specs.Prelude.{Option, Some, None, IfOk, reverse}
use Rattle.apl_workspace.specs.Workspace.{PlainWorkspace}
use Rattle.apl_meaning.specs.Printing.{input_shown}
use Rattle.apl_statements.specs.declared.waiting.Waiting.{Waiting}
use Rattle.apl_statements.specs.Evaluating.{innermost_begun, waiting_shown}
use Rattle.apl_statements.specs.Interpreter.{here}
use Rattle.apl_calls.proofs.HereLaw.{begun_is, here_is, shown_by}
use Rattle.apl_calls.proofs.ending.here.Goals as goal

pub line_shown-requires-clause-function : goal.line_shown-requires-clause-function
line_shown-requires-clause-function c =
    let found : innermost_begun (reverse c.interpreter.inside.callers.items) ≡ Some c.in-Some.waiting.now = ap (λ (list : List Waiting). innermost_begun (reverse list)) (sym c.deref.ensures.value) ∙ sym c.in-Some.ensures in
    (begun_is c.interpreter.inside.workspace c.interpreter.inside.workspace.frames (reverse c.interpreter.inside.callers.items) c.in-Some.waiting.now c.interpreter.invariant found).0

pub line_shown-requires-clause-begun : goal.line_shown-requires-clause-begun
line_shown-requires-clause-begun c =
    let found : innermost_begun (reverse c.interpreter.inside.callers.items) ≡ Some c.in-Some.waiting.now = ap (λ (list : List Waiting). innermost_begun (reverse list)) (sym c.deref.ensures.value) ∙ sym c.in-Some.ensures in
    (begun_is c.interpreter.inside.workspace c.interpreter.inside.workspace.frames (reverse c.interpreter.inside.callers.items) c.in-Some.waiting.now c.interpreter.invariant found).1

pub returns-in-None : goal.returns-in-None
returns-in-None c =
    let w : PlainWorkspace = c.interpreter.inside.workspace in
    let input : List ℕ = c.interpreter.inside.input.items in
    let callers : List Waiting = reverse c.interpreter.inside.callers.items in
    let none : innermost_begun callers ≡ None = ap (λ (list : List Waiting). innermost_begun (reverse list)) (sym c.deref.ensures.value) ∙ sym c.in-None.ensures in
    let shown : input_shown c.as_slice.result.now ≡ here c.args.interpreter.now =
    ap input_shown c.as_slice.ensures ∙ sym (here_is w w.frames input callers c.interpreter.invariant ∙ ap (λ (found : Option Waiting). shown_by w input found) none) ∙ ap here c.interpreter.view_is in
    subst (λ (shown : List ℕ). IfOk c.input_shown.result (λ line. line.items ≡ shown)) shown c.input_shown.ensures

pub returns-in-Some : goal.returns-in-Some
returns-in-Some c =
    let w : PlainWorkspace = c.interpreter.inside.workspace in
    let input : List ℕ = c.interpreter.inside.input.items in
    let callers : List Waiting = reverse c.interpreter.inside.callers.items in
    let found : innermost_begun callers ≡ Some c.in-Some.waiting.now = ap (λ (list : List Waiting). innermost_begun (reverse list)) (sym c.deref.ensures.value) ∙ sym c.in-Some.ensures in
    let shown : waiting_shown w c.in-Some.waiting.now ≡ here c.args.interpreter.now =
    sym (here_is w w.frames input callers c.interpreter.invariant ∙ ap (λ (found : Option Waiting). shown_by w input found) found) ∙ ap here c.interpreter.view_is in
    subst (λ (shown : List ℕ). IfOk c.line_shown.result (λ line. line.items ≡ shown)) shown c.line_shown.ensures
