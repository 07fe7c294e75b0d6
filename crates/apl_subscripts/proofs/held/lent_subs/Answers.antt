use Rattle.std.proofs.Common.{◌≡◌, List, length, ap, ◌∙◌, arith}
use Rattle.std.specs.Prelude.{Option}
use Rattle.std.proofs.lemmas.List.{take_all}
use Rattle.apl_arrays.specs.Array.{PlainArray}
use Rattle.apl_statements.specs.Holding.{stack_values}
use Rattle.apl_subscripts.specs.Held.{subs_held}
use Rattle.apl_subscripts.proofs.HeldLemmas.{lent_more, popped_count}
use Rattle.apl_subscripts.proofs.held.lent_subs.Goals as goal

pub loop-axis-preserved : goal.loop-axis-preserved
loop-axis-preserved c =
    let held : List (Option PlainArray) = subs_held c.args.workspace.now c.args.e.now c.args.places.now in
    let many : length held ≡ length c.args.places.now = popped_count c.args.places.now (stack_values c.args.workspace.now c.args.e.now) in record {
      lent = lent_more held c.loop-axis.subs.items _ c.sub_held.result c.loop-axis.axis (omega (arith, many, c.loop-axis-test.true)) c.loop-axis.invariant.lent c.sub_held.ensures c.push.ensures.items;
      many = omega (arith, c.push.ensures.len, c.loop-axis.invariant.many);
    }

pub returns : goal.returns
returns c =
    let held : List (Option PlainArray) = subs_held c.args.workspace.now c.args.e.now c.args.places.now in
    let many : length held ≡ length c.args.places.now = popped_count c.args.places.now (stack_values c.args.workspace.now c.args.e.now) in
    c.loop-axis.invariant.lent ∙ take_all c.loop-axis.axis held (omega (arith, many, c.loop-axis-test.false))
