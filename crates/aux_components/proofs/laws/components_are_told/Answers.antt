use Rattle.aux_components.proofs.KeptLemmas.{question_told}
use Rattle.aux_components.proofs.laws.components_are_told.Goals as goal

pub returns : goal.returns
returns g c = question_told _ _
