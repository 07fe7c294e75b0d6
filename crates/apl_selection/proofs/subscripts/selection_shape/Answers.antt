use Rattle.std.proofs.Common.{List, ℕ, length, refl, ap, arith, map}
use Rattle.std.specs.Prelude.{option_copied}
use Rattle.std.proofs.lemmas.List.{length-append}
use Rattle.apl_selection.proofs.SubscriptLemmas.{axes_more, sub_read}
use Rattle.apl_selection.proofs.subscripts.selection_shape.Goals as goal

pub loop-axis-preserved : goal.loop-axis-preserved
loop-axis-preserved c =
    let grown = rw c.unwrap.ensures at c.try_extend_from_slice.ensures.ok in
    record {
      given = axes_more c.args.shape.now (map option_copied c.args.subs.now) c.loop-axis.axis _ (option_copied c.index-subs-axis.result) c.loop-axis.axes.items c.axes_by-here.result.now _ c.loop-axis.invariant.given refl
          (sub_read c.args.subs.now c.loop-axis.axis c.index-subs-axis.result (omega arith) c.index-subs-axis.is) c.axes_by-here.ensures.value grown;
      few = omega (arith, ap (λ (xs : List ℕ). length xs) grown, length-append c.loop-axis.axes.items c.axes_by-here.result.now, c.loop-axis.invariant.few, c.axes_by-here.ensures.few);
    }
