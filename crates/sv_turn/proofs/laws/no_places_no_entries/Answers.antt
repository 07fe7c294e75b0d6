use Rattle.sv_turn.proofs.LaterEntries.{no_later_own}
use Rattle.sv_turn.proofs.laws.no_places_no_entries.Goals as goal

pub returns : goal.returns
returns g c = no_later_own
