use Rattle.apl_structure.proofs.OwnPlacesLemmas.{own_places}
use Rattle.apl_structure.proofs.laws.a_vector_at_its_places_is_the_vector.Goals as goal

pub returns : goal.returns
returns c = own_places
