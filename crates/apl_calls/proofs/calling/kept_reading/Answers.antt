use Rattle.std.proofs.Common.{◌≡◌, ◌-◌, ℕ, List, [], length, refl, sym, ap, subst, ◌∙◌}
use Rattle.std.specs.Prelude.{Some, IfSome, IsSome, reverse, slice_get, unwrap_or}
use Rattle.std.specs.Arc.{arc_value}
use Rattle.apl_workspace.specs.Workspace.{PlainWorkspace}
use Rattle.apl_values.specs.Parts.{IsReadFrom}
use Rattle.apl_values.proofs.Found.{copied_if, found_at}
use Rattle.apl_statements.specs.declared.waiting.Waiting.{Waiting}
use Rattle.apl_statements.specs.Evaluating.{line_of_innermost, stack_of}
use Rattle.apl_statements.specs.Interpreter.{PlainInterpreter}
use Rattle.apl_statements.specs.Stack.{PlainWaiting}
use Rattle.apl_calls.proofs.Innermost.{kept_is_read}
use Rattle.apl_calls.proofs.calling.kept_reading.Goals as goal

pub returns : goal.returns
returns c =
    let w : PlainWorkspace = c.interpreter.inside.workspace in
    let items : List Waiting = c.interpreter.inside.callers.items in
    let stack : List PlainWaiting = stack_of w c.interpreter.inside.input.items (reverse items) in
    let waiting : Waiting = c.in_ok-waiting.waiting.now in
    let at : ℕ = c.args.number - 1 in
    let last : slice_get items (length items - 1) ≡ Some waiting = ap (λ (list : List Waiting). slice_get list (length list - 1)) (sym c.deref.ensures.value) ∙ sym c.in_ok-waiting.ensures.value in
    let there : IsSome (line_of_innermost stack c.args.number) = subst (λ (m : PlainInterpreter). IsSome (line_of_innermost m.stack c.args.number)) (sym c.interpreter.view_is) c.requires.there in
    let kept : slice_get waiting.readings.items at ≡ Some c.in_ok-get.field-0.now =
    ap (λ list. slice_get list at) (sym c.deref-2.ensures.value) ∙ sym (found_at c.deref-2.result.now at (Some c.in_ok-get.field-0) c.in_ok-get.ensures.lookup) in
    subst (λ (m : PlainInterpreter). IfSome c.as_ref.result (λ kept. IsReadFrom m.workspace (unwrap_or (line_of_innermost m.stack c.args.number) []) (arc_value kept.now))) c.interpreter.view_is
    (copied_if (λ reading. IsReadFrom w (unwrap_or (line_of_innermost stack c.args.number) []) (arc_value reading)) c.as_ref.result c.in_ok-get.field-0.now c.as_ref.ensures.value
    (subst (λ found. IfSome found (λ kept. IfSome kept (λ reading. IsReadFrom w (unwrap_or (line_of_innermost stack c.args.number) []) (arc_value reading)))) kept
    (kept_is_read w c.interpreter.inside.input.items items waiting c.args.number at c.interpreter.invariant last there refl)))
