use Rattle.std.proofs.Common.{length}
use Rattle.aplsv_check.proofs.turns.+user_turns.Given as goal

abbrev pub decreases-user_turns : goal.decreases-user_turns
decreases-user_turns l = length l.seats.now
