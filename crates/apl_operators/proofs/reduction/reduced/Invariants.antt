use Rattle.std.proofs.Common.{◌+◌, ◌-◌, Some}
use Rattle.apl_operators.proofs.ReductionLemmas.{Reduces}
use Rattle.apl_operators.proofs.reduction.reduced.Given as goal

-- the value is the reduction of the items so far, from the last on
abbrev pub invariant-loop-back : goal.invariant-loop-back
invariant-loop-back g l = Reduces (goal.G-post g l.item) (goal.F-post g l.join) (l.more + 1) (l.more - l.back) l.back (Some l.value)
