use Rattle.std.proofs.Common.{◌≡◌, ◌-◌, List, length, sym, ap, subst, ◌∙◌}
use Rattle.std.specs.Prelude.{Some, IsSome, slice_get}
use Rattle.apl_statements.specs.declared.waiting.Waiting.{Waiting}
use Rattle.apl_statements.specs.Evaluating.{line_of_innermost}
use Rattle.apl_statements.specs.Interpreter.{PlainInterpreter}
use Rattle.apl_calls.specs.Waitings.{IsKeptAt}
use Rattle.apl_calls.proofs.Innermost.{kept_is_there}
use Rattle.apl_calls.proofs.calling.keeps_line.Goals as goal

pub returns-in-Some : goal.returns-in-Some
returns-in-Some c is =
    let callers : List Waiting = c.interpreter.inside.callers.items in
    let waiting : Waiting = c.in-Some.waiting.now in
    let last : slice_get callers (length callers - 1) ≡ Some waiting = ap (λ (list : List Waiting). slice_get list (length list - 1)) (sym c.deref.ensures.value) ∙ sym c.in-Some.ensures.value in
    let kept : IsKeptAt waiting.readings.items c.args.number = subst (λ readings. IsKeptAt readings c.args.number) c.deref-in-Some.ensures.value (c.has_reading.ensures is) in
    subst (λ (m : PlainInterpreter). IsSome (line_of_innermost m.stack c.args.number)) c.interpreter.view_is (kept_is_there c.interpreter.inside.workspace c.interpreter.inside.input.items callers waiting c.args.number c.interpreter.invariant last kept)
