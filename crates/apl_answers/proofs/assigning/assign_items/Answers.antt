use Rattle.std.proofs.Common.{◌≡◌}
use Rattle.std.proofs.lemmas.Result.{err_from_is_err_and}
use Rattle.apl_selection.proofs.WantLemmas.{on_want}
use Rattle.apl_workspace.specs.Workspace.{look}
use Rattle.apl_meaning.specs.Nodes.{items_step, popped}
use Rattle.apl_statements.specs.Interpreter.{PlainInterpreter}
use Rattle.apl_statements.specs.Moves.{part_takes}
use Rattle.apl_statements.proofs.Same.{comes_exit}
use Rattle.apl_statements.proofs.Wants.{want_exit}
use Rattle.apl_subscripts.specs.Held.{MayBeReplaced, behind_subs, places_at, subs_held}
use Rattle.apl_subscripts.proofs.HeldLemmas.{may_be_replaced}
use Rattle.apl_answers.proofs.assigning.assign_items.Goals as goal

pub returns-in_err-replacement-clause-comes : goal.returns-in_err-replacement-clause-comes
returns-in_err-replacement-clause-comes c =
    let m : PlainInterpreter = c.args.interpreter.now in
    let exit = err_from_is_err_and c.from_residual.result c.from_residual.ensures.1 in
    let why : exit.0 ≡ c.in_err-replacement.field-0.0 = cc exit.2 in
    comes_exit m m (part_takes m c.args.e (λ values. items_step c.args.name (popped (places_at c.args.e c.args.at) values).subs (popped (places_at c.args.e c.args.at) values).values)) 0 c.from_residual.result exit.0 c.in_err-replacement.field-0.0 exit.1 why
    c.in_err-replacement.ensures.wrong

pub returns-in_err-replacement-clause-memory : goal.returns-in_err-replacement-clause-memory
returns-in_err-replacement-clause-memory c =
    let m : PlainInterpreter = c.args.interpreter.now in
    let exit = err_from_is_err_and c.from_residual.result c.from_residual.ensures.1 in
    let why : exit.0 ≡ c.in_err-replacement.field-0.0 = cc exit.2 in
    want_exit c.from_residual.result exit.0 c.in_err-replacement.field-0.0 (MayBeReplaced (look m.workspace c.args.name) (subs_held m.workspace c.args.e (places_at c.args.e c.args.at)) (behind_subs m.workspace c.args.e (places_at c.args.e c.args.at))) exit.1 why
    c.in_err-replacement.ensures.memory

pub returns-in-None-clause-memory : goal.returns-in-None-clause-memory
returns-in-None-clause-memory c =
    let m : PlainInterpreter = c.args.interpreter.now in
    on_want c.use_first.result _ (may_be_replaced (look m.workspace c.args.name) (subs_held m.workspace c.args.e (places_at c.args.e c.args.at)) (behind_subs m.workspace c.args.e (places_at c.args.e c.args.at)) c.in_ok-replacement.field-0 c.in_ok-replacement.ensures.right)

pub returns-in-Some-clause-memory : goal.returns-in-Some-clause-memory
returns-in-Some-clause-memory c =
    let m : PlainInterpreter = c.args.interpreter.now in
    on_want c.put_replaced.result _ (may_be_replaced (look m.workspace c.args.name) (subs_held m.workspace c.args.e (places_at c.args.e c.args.at)) (behind_subs m.workspace c.args.e (places_at c.args.e c.args.at)) c.in_ok-replacement.field-0 c.in_ok-replacement.ensures.right)
