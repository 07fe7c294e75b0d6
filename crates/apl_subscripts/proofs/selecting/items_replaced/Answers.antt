use Rattle.std.proofs.Common.{◌≡◌, List, sym, ap, ◌∙◌}
use Rattle.std.specs.Prelude.{option_copied, slice_get}
use Rattle.apl_arrays.specs.Array.{PlainArray}
use Rattle.apl_statements.specs.Holding.{stack_values}
use Rattle.apl_subscripts.specs.Held.{behind_subs, subs_held}
use Rattle.apl_subscripts.proofs.HeldLemmas.{left_first, none_to_put, put_answers, put_free}
use Rattle.apl_subscripts.proofs.selecting.items_replaced.Goals as goal
use Rattle.apl_subscripts.proofs.selecting.items_replaced.Goals.{After-value_behind}

-- what stands behind the subscripts
first : (c : After-value_behind) → option_copied c.value_behind.result ≡ slice_get (behind_subs c.args.workspace.now c.args.e.now c.args.places.now) 0
first c =
    let all : List PlainArray = stack_values c.args.workspace.now c.args.e.now in
    c.value_behind.ensures ∙ ap (slice_get all) c.given_count.ensures ∙ sym (left_first c.args.places.now all)

pub returns-in-None-clause-answer : goal.returns-in-None-clause-answer
returns-in-None-clause-answer c =
    none_to_put c.args.a.now (subs_held c.args.workspace.now c.args.e.now c.args.places.now) (behind_subs c.args.workspace.now c.args.e.now c.args.places.now)
    (ap option_copied (sym c.in-None.is) ∙ first (goal.at.returns-in-None-clause-answer c).After-value_behind)

pub returns-in-Some-clause-answer : goal.returns-in-Some-clause-answer
returns-in-Some-clause-answer c =
    put_answers c.args.a.now c.in-Some.right.now (subs_held c.args.workspace.now c.args.e.now c.args.places.now) (behind_subs c.args.workspace.now c.args.e.now c.args.places.now) c.replaced_by.result
    (ap option_copied (sym c.in-Some.is) ∙ first (goal.at.returns-in-Some-clause-answer c).After-value_behind) c.replaced_by.ensures.answer

pub returns-in-Some-clause-memory : goal.returns-in-Some-clause-memory
returns-in-Some-clause-memory c =
    put_free c.args.a.now c.in-Some.right.now (subs_held c.args.workspace.now c.args.e.now c.args.places.now) (behind_subs c.args.workspace.now c.args.e.now c.args.places.now) c.replaced_by.result
    (ap option_copied (sym c.in-Some.is) ∙ first (goal.at.returns-in-Some-clause-memory c).After-value_behind) c.replaced_by.ensures.memory
