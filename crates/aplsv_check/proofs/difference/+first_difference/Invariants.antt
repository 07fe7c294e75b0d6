use Rattle.std.proofs.Common.{length}
use Rattle.aplsv_check.proofs.difference.+first_difference.Given as goal

abbrev pub decreases-first_difference : goal.decreases-first_difference
decreases-first_difference l = length l.seats.now
