use Rattle.std.proofs.Common.{length}
use Rattle.apl_structure.proofs.diagonals.+step_of.Given as goal

abbrev pub decreases-step_of : goal.decreases-step_of
decreases-step_of l = length l.numbers.now
