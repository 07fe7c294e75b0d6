use Rattle.std.proofs.Common.{◌-◌, vec_len}
use Rattle.apl_statements.proofs.room.make_places.Given as goal

abbrev pub decreases-places : goal.decreases-places
decreases-places l = 64 - vec_len l.known
