use Rattle.apl_workspace.proofs.Looks.{header_found}
use Rattle.apl_workspace.proofs.call_laws.arguments_have_their_values.Goals as goal

pub returns : goal.returns
returns c = header_found
