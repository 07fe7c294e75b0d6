use Rattle.std.proofs.Common.{length}
use Rattle.apl_structure.proofs.diagonals.+axis_count.Given as goal

abbrev pub decreases-axis_count : goal.decreases-axis_count
decreases-axis_count l = length l.numbers.now
