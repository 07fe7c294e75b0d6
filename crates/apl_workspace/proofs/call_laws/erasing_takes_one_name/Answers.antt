use Rattle.apl_workspace.proofs.Looks.{look_without}
use Rattle.apl_workspace.proofs.call_laws.erasing_takes_one_name.Goals as goal

pub returns : goal.returns
returns c = look_without
