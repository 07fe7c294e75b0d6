use Rattle.apl_selection.proofs.JoinPlaceLaws.{first_stands, join_shape, second_stands}
use Rattle.apl_selection.proofs.laws.parts_of_a_join_stay_in_place.Goals as goal

pub returns : goal.returns
returns c = record { shape = join_shape; first = first_stands; second = second_stands }
