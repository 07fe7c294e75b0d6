use Rattle.std.proofs.Common.{◌+◌, ◌-◌, Some, arith}
use Rattle.apl_operators.proofs.ReductionLemmas.{all_items, item_before, item_lacks, last_item, value_lacks}
use Rattle.apl_operators.proofs.reduction.reduced.Goals as goal

pub loop-back-init : goal.loop-back-init
loop-back-init g c = last_item _ _ c.args.more (c.args.more - 0) c.in_ok-value.value c.in_ok-value.ensures (omega arith)

pub loop-back-preserved : goal.loop-back-preserved
loop-back-preserved g c =
    item_before _ _ (c.args.more + 1) (c.args.more - (c.loop-back.back + 1)) (c.args.more - 1 - c.loop-back.back) (c.args.more - c.loop-back.back) c.loop-back.back
    c.in_ok-before.before c.loop-back.value c.in_ok-value-2.value c.loop-back.invariant (omega arith) (omega arith) (omega arith) c.in_ok-before.ensures c.in_ok-value-2.ensures

pub returns-in_err-value : goal.returns-in_err-value
returns-in_err-value g c = rw c.from_residual.ensures (item_lacks _ _ c.args.more c.args.more (omega arith) c.in_err-value.ensures)

pub returns-in_err-before : goal.returns-in_err-before
returns-in_err-before g c = rw c.from_residual-in_err-before.ensures (item_lacks _ _ c.args.more (c.args.more - 1 - c.loop-back.back) (omega arith) c.in_err-before.ensures)

pub returns-in_err-value-2 : goal.returns-in_err-value-2
returns-in_err-value-2 g c =
    rw c.from_residual-in_err-value-2.ensures
    (value_lacks _ _ c.args.more (c.args.more - 1 - c.loop-back.back) (c.args.more - c.loop-back.back) c.loop-back.back
    c.in_ok-before.before c.loop-back.value c.loop-back.invariant (omega arith) (omega arith) c.in_ok-before.ensures c.in_err-value-2.ensures)

pub returns : goal.returns
returns g c = all_items _ _ (c.args.more + 1) (c.args.more - c.loop-back.back) c.loop-back.back c.args.more (Some c.loop-back.value) c.loop-back.invariant (omega arith) (omega arith)
