use Rattle.std.proofs.Common.{length}
use Rattle.aplsv_replay.proofs.parties.+seat_turns.Given as goal

abbrev pub decreases-seat_turns : goal.decreases-seat_turns
decreases-seat_turns g l = length l.seats.now
