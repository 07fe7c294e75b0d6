use Rattle.std.proofs.Common.{◌≡◌, List, sym, ap, subst, ◌∙◌}
use Rattle.std.specs.Prelude.{Option, IfOk, Some, reverse}
use Rattle.apl_arrays.specs.Array.{PlainArray}
use Rattle.apl_workspace.specs.Function.{PlainFunction}
use Rattle.apl_workspace.specs.Header.{PlainHeader}
use Rattle.apl_meaning.specs.Calls.{local_value, result_of}
use Rattle.apl_statements.specs.Evaluating.{innermost_function, stack_of}
use Rattle.apl_statements.specs.Interpreter.{PlainInterpreter}
use Rattle.apl_statements.specs.Stack.{PlainWaiting}
use Rattle.apl_calls.proofs.Left.{innermost_at, result_is}
use Rattle.apl_calls.proofs.calling.result_under_way.Goals as goal

pub returns-in-Some-result : goal.returns-in-Some-result
returns-in-Some-result c =
    let m : PlainInterpreter = c.args.interpreter.now in
    let stack : List PlainWaiting = stack_of c.interpreter.inside.workspace c.interpreter.inside.input.items (reverse c.interpreter.inside.callers.items) in
    let function : PlainFunction = c.in-Some.function.now in
    let innermost : innermost_function stack ≡ function = ap (λ (x : PlainInterpreter). innermost_function x.stack) c.interpreter.view_is ∙ innermost_at m.stack function c.in-Some.ensures in
    let named : (innermost_function stack).header.result ≡ Some c.in-Some-result.name =
    ap (λ (f : PlainFunction). f.header.result) innermost ∙ ap (λ (h : PlainHeader). h.result) (sym c.header_of.ensures ∙ sym c.behind-function.view_is) ∙ c.in-Some-result.is in
    let given = ap local_value c.look.ensures.value ∙ result_is c.interpreter.inside.workspace c.interpreter.inside.input.items (reverse c.interpreter.inside.callers.items) c.in-Some-result.name c.interpreter.invariant named
    ∙ ap (λ (x : PlainInterpreter). result_of (innermost_function x.stack) x.workspace) c.interpreter.view_is in
    subst (λ (result : Option PlainArray). IfOk c.value_seen.result (λ found. found ≡ result)) given c.value_seen.ensures
