use Rattle.apl_workspace.proofs.NameLaw.{names_told_apart}
use Rattle.apl_workspace.proofs.laws.names_are_told_apart.Goals as goal

pub returns : goal.returns
returns c = names_told_apart
