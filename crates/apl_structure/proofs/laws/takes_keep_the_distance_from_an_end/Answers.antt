use Rattle.apl_structure.proofs.TakeLaws.{fill_stands, take_shape, taken_stands}
use Rattle.apl_structure.proofs.laws.takes_keep_the_distance_from_an_end.Goals as goal

pub returns : goal.returns
returns c = record { shape = take_shape; taken = taken_stands; filled = fill_stands }
