use Rattle.std.proofs.Common.{refl, ap, ◌∙◌, arith, map}
use Rattle.std.specs.Prelude.{option_copied}
use Rattle.apl_selection.specs.Subscripts.{is_of_chars}
use Rattle.apl_selection.proofs.SubscriptLemmas.{as_many_lent, count_more, is_number, sub_read, whole_more}
use Rattle.apl_selection.proofs.subscripts.named_counts.Goals as goal

pub loop-axis-preserved : goal.loop-axis-preserved
loop-axis-preserved c =
    let shape = c.args.shape.now in let subs = map option_copied c.args.subs.now in let axis = c.loop-axis.axis in let sub = option_copied c.index-subs-axis.result in
    let read = sub_read c.args.subs.now axis c.index-subs-axis.result (omega arith) c.index-subs-axis.is in record {
      value = count_more shape subs axis _ c.named_count.result sub c.loop-axis.counts.items _ c.loop-axis.invariant.value refl read c.named_count.ensures.value c.in_ok-push.ensures.items;
      whole = λ kind.
          whole_more shape subs axis _ c.named_count.result sub c.loop-axis.counts.items _ (c.loop-axis.invariant.whole kind) refl read
          (c.named_count.ensures.whole (ap is_of_chars read ∙ is_number subs axis (omega (arith, as_many_lent c.args.subs.now)) kind)) c.in_ok-push.ensures.items;
    }
