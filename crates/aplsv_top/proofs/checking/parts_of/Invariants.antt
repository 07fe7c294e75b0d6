use Rattle.std.proofs.Common.{length}
use Rattle.aplsv_top.proofs.Splits.{IsReadUpTo}
use Rattle.aplsv_top.proofs.checking.parts_of.Given as goal

abbrev pub invariant-loop-line : goal.invariant-loop-line
invariant-loop-line l = IsReadUpTo l.input l.rest

abbrev pub decreases-loop-line : goal.decreases-loop-line
decreases-loop-line l = length l.rest
