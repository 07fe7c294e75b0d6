use Rattle.sv_turn.proofs.PlaceLaws.{places_are_own, own_places_stand, places_ascend}
use Rattle.sv_turn.proofs.laws.places_law.Goals as goal

pub returns : goal.returns
returns g c = record { own = places_are_own; all = own_places_stand; ascending = places_ascend }
