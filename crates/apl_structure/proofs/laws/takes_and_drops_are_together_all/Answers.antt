use Rattle.apl_structure.proofs.VectorLaws.{front_and_rest, rest_and_back}
use Rattle.apl_structure.proofs.laws.takes_and_drops_are_together_all.Goals as goal

pub returns : goal.returns
returns c = record { front = front_and_rest; back = rest_and_back }
