use Rattle.std.proofs.Common.{length}
use Rattle.apl_structure.proofs.diagonals.+least_length.Given as goal

abbrev pub decreases-least_length : goal.decreases-least_length
decreases-least_length l = length l.numbers.now
