use Rattle.session_rules.proofs.ShelfPlaces.{shelves_keep}
use Rattle.session_rules.proofs.run_laws.shelves_keep_their_places.Goals as goal

pub returns : goal.returns
returns g c = shelves_keep g.K.Shelf.told g.K.Shelf.faults
