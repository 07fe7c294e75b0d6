use Rattle.std.proofs.Common.{◌≡◌, ◌-◌, List, length, sym, ap, subst, take, ◌∙◌}
use Rattle.std.specs.Prelude.{Some, option_map, reverse, slice_get}
use Rattle.apl_workspace.specs.Workspace.{IsWorkspace}
use Rattle.apl_values.proofs.Found.{last_first}
use Rattle.apl_statements.specs.declared.waiting.Waiting.{Waiting}
use Rattle.apl_statements.specs.Evaluating.{plain_next}
use Rattle.apl_statements.specs.Interpreter.{PlainInterpreter}
use Rattle.apl_statements.specs.Stack.{PlainWaiting}
use Rattle.apl_calls.proofs.Innermost.{number_is_small, number_of_last}
use Rattle.apl_calls.proofs.Lines.{behind_is_next, follows_comes}
use Rattle.apl_calls.proofs.calling.follow.Goals as goal

pub following-number-requires : goal.following-number-requires
following-number-requires c =
    let callers : List Waiting = c.interpreter.inside.callers.items in
    let waiting : Waiting = c.in-Some.waiting.now in
    let last : slice_get callers (length callers - 1) ≡ Some waiting = ap (λ (list : List Waiting). slice_get list (length list - 1)) (sym c.deref.ensures.value) ∙ sym c.in-Some.ensures.value in
    number_is_small c.interpreter.inside.workspace callers (reverse (take (length callers - 1) callers)) waiting (subst (λ (x : PlainInterpreter). IsWorkspace x.workspace) (sym c.interpreter.view_is) c.rules.ensures) c.interpreter.invariant (last_first callers waiting last)

pub returns-in-Some-clause-comes : goal.returns-in-Some-clause-comes
returns-in-Some-clause-comes c =
    let m : PlainInterpreter = c.args.interpreter.now in
    let callers : List Waiting = c.interpreter.inside.callers.items in
    let waiting : Waiting = c.in-Some.waiting.now in
    let last : slice_get callers (length callers - 1) ≡ Some waiting = ap (λ (list : List Waiting). slice_get list (length list - 1)) (sym c.deref.ensures.value) ∙ sym c.in-Some.ensures.value in
    let number : Some waiting.number ≡ option_map (λ (p : PlainWaiting). p.number) (slice_get m.stack 0) =
    number_of_last c.interpreter.inside.workspace c.interpreter.inside.input.items callers waiting last ∙ ap (λ (x : PlainInterpreter). option_map (λ (p : PlainWaiting). p.number) (slice_get x.stack 0)) c.interpreter.view_is in
    follows_comes m c.begin_line.new.interpreter waiting.number c.following-number.result (plain_next c.args.next) c.begin_line.result number c.following-number.ensures c.begin_line.ensures.comes

pub returns-in-Some-clause-memory : goal.returns-in-Some-clause-memory
returns-in-Some-clause-memory c some =
    let m : PlainInterpreter = c.args.interpreter.now in
    let callers : List Waiting = c.interpreter.inside.callers.items in
    let waiting : Waiting = c.in-Some.waiting.now in
    let last : slice_get callers (length callers - 1) ≡ Some waiting = ap (λ (list : List Waiting). slice_get list (length list - 1)) (sym c.deref.ensures.value) ∙ sym c.in-Some.ensures.value in
    let number : Some waiting.number ≡ option_map (λ (p : PlainWaiting). p.number) (slice_get m.stack 0) =
    number_of_last c.interpreter.inside.workspace c.interpreter.inside.input.items callers waiting last ∙ ap (λ (x : PlainInterpreter). option_map (λ (p : PlainWaiting). p.number) (slice_get x.stack 0)) c.interpreter.view_is in
    c.begin_line.ensures.memory (behind_is_next m.stack waiting.number c.following-number.result (plain_next c.args.next) number c.following-number.ensures some)
