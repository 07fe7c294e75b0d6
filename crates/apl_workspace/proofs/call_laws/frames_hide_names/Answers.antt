use Rattle.apl_workspace.proofs.Looks.{left_again, look_entered}
use Rattle.apl_workspace.proofs.call_laws.frames_hide_names.Goals as goal

pub returns-clause-entered : goal.returns-clause-entered
returns-clause-entered c = look_entered

pub returns-clause-left : goal.returns-clause-left
returns-clause-left c = left_again
