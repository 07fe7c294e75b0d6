use Rattle.std.proofs.Common.{refl, arith, map}
use Rattle.std.specs.Prelude.{option_copied}
use Rattle.apl_selection.proofs.SubscriptLemmas.{none_outside, one_outside, sub_read}
use Rattle.apl_selection.proofs.subscripts.point_outside.Goals as goal

pub returns-then-points_outside : goal.returns-then-points_outside
returns-then-points_outside c =
    one_outside c.args.shape.now (map option_copied c.args.subs.now) c.loop-axis.axis _ (option_copied c.index-subs-axis.result) c.points_outside.result c.loop-axis-test.true refl
    (sub_read c.args.subs.now c.loop-axis.axis c.index-subs-axis.result (omega arith) c.index-subs-axis.is) c.points_outside.ensures c.if-points_outside.true

pub loop-axis-preserved : goal.loop-axis-preserved
loop-axis-preserved c =
    none_outside c.args.shape.now (map option_copied c.args.subs.now) c.loop-axis.axis _ (option_copied c.index-subs-axis.result) c.points_outside.result c.loop-axis.invariant refl
    (sub_read c.args.subs.now c.loop-axis.axis c.index-subs-axis.result (omega arith) c.index-subs-axis.is) c.points_outside.ensures c.if-points_outside.false
