use Rattle.apl_workspace.proofs.HeaderLaw.{header_is_computed}
use Rattle.apl_workspace.proofs.laws.headers_are_computed.Goals as goal

pub returns : goal.returns
returns c = header_is_computed
