use Rattle.std.proofs.Common.{◌≡◌, ℕ, List, ap, subst, sym, ◌∙◌}
use Rattle.std.specs.Prelude.{Err, IfErr, Option, Result, count_by, is_some, length, nat_lt}
use Rattle.std.specs.Option.{option_copied}
use Rattle.std.proofs.lemmas.Result.{err_from_is_err_and}
use Rattle.apl_arrays.specs.Array.{PlainArray}
use Rattle.apl_arrays.specs.declared.report.Fail.{Fail}
use Rattle.apl_workspace.specs.Workspace.{is_assignable, look}
use Rattle.apl_workspace.specs.declared.meaning.Meaning.TheVariants as meaning
use Rattle.apl_meaning.specs.Nodes.{items_step, popped}
use Rattle.apl_statements.specs.Interpreter.{PlainInterpreter}
use Rattle.apl_statements.specs.Moves.{Comes, Coming, part_takes}
use Rattle.apl_statements.proofs.Wants.{want_exit}
use Rattle.apl_subscripts.specs.Held.{MayBeReplaced, behind_subs, places_at, subs_held}
use Rattle.apl_answers.proofs.Replacing.{items_of_code, items_of_nothing, share_ends, share_is_used, share_waits_not, value_ends, value_waits}
use Rattle.apl_answers.proofs.assigning.replacement.Goals as goal
use Rattle.apl_answers.proofs.assigning.replacement.Goals.{In-Value}

pub returns-in-Nothing-clause-wrong : goal.returns-in-Nothing-clause-wrong
returns-in-Nothing-clause-wrong c =
    items_of_nothing c.args.interpreter.now c.args.e.now c.args.name.now (places_at c.args.e.now c.args.at)
    (ap (λ (x : PlainInterpreter). look x.workspace c.args.name.now) (sym c.interpreter.view_is) ∙ sym c.in-Nothing.ensures.value)

pub returns-in-Function-clause-wrong : goal.returns-in-Function-clause-wrong
returns-in-Function-clause-wrong c =
    items_of_code c.args.interpreter.now c.args.e.now c.args.name.now (places_at c.args.e.now c.args.at) c.not_replaced.result
    (ap (λ (x : PlainInterpreter). is_assignable (look x.workspace c.args.name.now)) (sym c.interpreter.view_is) ∙ ap is_assignable (sym c.in-Function.ensures.value)) c.not_replaced.ensures

pub returns-in-Label-clause-wrong : goal.returns-in-Label-clause-wrong
returns-in-Label-clause-wrong c =
    items_of_code c.args.interpreter.now c.args.e.now c.args.name.now (places_at c.args.e.now c.args.at) c.not_replaced-in-Label.result
    (ap (λ (x : PlainInterpreter). is_assignable (look x.workspace c.args.name.now)) (sym c.interpreter.view_is) ∙ ap is_assignable (sym c.in-Label.ensures.value)) c.not_replaced-in-Label.ensures

-- what the name stands for
has_value : (c : In-Value) → look c.args.interpreter.now.workspace c.args.name.now ≡ meaning.Value c.in-Value.old.now
has_value c = ap (λ (x : PlainInterpreter). look x.workspace c.args.name.now) (sym c.interpreter.view_is) ∙ sym c.in-Value.ensures.value

pub returns-in_err-new-in-Value-clause-wrong : goal.returns-in_err-new-in-Value-clause-wrong
returns-in_err-new-in-Value-clause-wrong c =
    let m : PlainInterpreter = c.args.interpreter.now in
    let coming : Coming = part_takes m c.args.e.now (λ values. items_step c.args.name.now (popped (places_at c.args.e.now c.args.at) values).subs (popped (places_at c.args.e.now c.args.at) values).values) in
    let seen = has_value (goal.at.returns-in_err-new-in-Value-clause-wrong c).In-Value in
    let exit = err_from_is_err_and c.from_residual.result c.from_residual.ensures.1 in
    let why : exit.0 ≡ c.in_err-new-in-Value.field-0.0 = cc exit.2 in
    subst (λ (r : Result (Option PlainArray) Fail). IfErr r (λ f. Comes m coming 0 m (Err f))) (sym exit.1)
    (subst (λ (f : Fail). Comes m coming 0 m (Err f)) (sym why)
    (value_ends m c.args.e.now c.args.name.now (places_at c.args.e.now c.args.at) c.in-Value.old.now c.in_err-new-in-Value.field-0.0 seen c.in_err-new-in-Value.ensures.answer))

pub returns-in_err-new-in-Value-clause-memory : goal.returns-in_err-new-in-Value-clause-memory
returns-in_err-new-in-Value-clause-memory c =
    let m : PlainInterpreter = c.args.interpreter.now in
    let subs : List (Option PlainArray) = subs_held m.workspace c.args.e.now (places_at c.args.e.now c.args.at) in
    let values : List PlainArray = behind_subs m.workspace c.args.e.now (places_at c.args.e.now c.args.at) in
    let seen = has_value (goal.at.returns-in_err-new-in-Value-clause-memory c).In-Value in
    let exit = err_from_is_err_and c.from_residual.result c.from_residual.ensures.1 in
    let why : exit.0 ≡ c.in_err-new-in-Value.field-0.0 = cc exit.2 in
    want_exit c.from_residual.result exit.0 c.in_err-new-in-Value.field-0.0 (MayBeReplaced (look m.workspace c.args.name.now) subs values) exit.1 why
    (value_waits (look m.workspace c.args.name.now) c.in-Value.old.now subs values c.in_err-new-in-Value.field-0.0 seen c.in_err-new-in-Value.ensures.memory)

pub returns-in_ok-new-in-Value-clause-right : goal.returns-in_ok-new-in-Value-clause-right
returns-in_ok-new-in-Value-clause-right c = (c.in-Value.old.now, has_value (goal.at.returns-in_ok-new-in-Value-clause-right c).In-Value, c.in_ok-new-in-Value.ensures.answer)

-- what is told where it is shared
pub returns-in-Shared-clause-wrong : goal.returns-in-Shared-clause-wrong
returns-in-Shared-clause-wrong c = share_ends c.args.interpreter.now c.args.e.now c.args.name.now (places_at c.args.e.now c.args.at) c.none_yet.result c.none_yet.ensures

pub returns-in-Shared-clause-right : goal.returns-in-Shared-clause-right
returns-in-Shared-clause-right c =
    share_is_used c.args.interpreter.now c.args.e.now c.args.name.now (places_at c.args.e.now c.args.at) (option_copied c.in-Shared.field-0) c.none_yet.result
    (ap (λ (x : PlainInterpreter). look x.workspace c.args.name.now) (sym c.interpreter.view_is) ∙ sym c.in-Shared.ensures.value) c.none_yet.ensures

pub returns-in-Shared-clause-memory : goal.returns-in-Shared-clause-memory
returns-in-Shared-clause-memory c =
    share_waits_not c.none_yet.result (nat_lt (count_by is_some (places_at c.args.e.now c.args.at)) (length c.args.e.now.values.items)) _ c.none_yet.ensures
