use Rattle.apl_structure.proofs.VectorLaws.{drop_first, drop_last, nothing_left}
use Rattle.apl_structure.proofs.laws.drops_are_without_the_first_or_the_last.Goals as goal

pub returns : goal.returns
returns c = record { first = drop_first; last = drop_last; beyond = nothing_left }
