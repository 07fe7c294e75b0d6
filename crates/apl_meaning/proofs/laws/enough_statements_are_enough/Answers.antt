use Rattle.apl_meaning.proofs.Enough.{enough}
use Rattle.apl_meaning.proofs.laws.enough_statements_are_enough.Goals as goal

pub returns : goal.returns
returns c = λ most more task s few le. enough most more le task s few
