use Rattle.apl_workspace.proofs.Labels.{label_found, label_stands}
use Rattle.apl_workspace.proofs.label.labels_stand_before_colons.Goals as goal

pub returns : goal.returns
returns c line label = (label_stands line label, label_found line label)
