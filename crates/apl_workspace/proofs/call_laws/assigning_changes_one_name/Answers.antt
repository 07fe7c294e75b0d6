use Rattle.apl_workspace.proofs.Looks.{look_assigned}
use Rattle.apl_workspace.proofs.call_laws.assigning_changes_one_name.Goals as goal

pub returns : goal.returns
returns c = look_assigned
