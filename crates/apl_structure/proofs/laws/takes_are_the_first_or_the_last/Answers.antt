use Rattle.apl_structure.proofs.VectorLaws.{take_first, take_last}
use Rattle.apl_structure.proofs.laws.takes_are_the_first_or_the_last.Goals as goal

pub returns : goal.returns
returns c = record { first = take_first; last = take_last }
