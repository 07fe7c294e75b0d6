use Rattle.apl_workspace.specs.Frame.{header_names}
use Rattle.apl_workspace.proofs.FrameLaw.{labels_first}
use Rattle.apl_workspace.proofs.frame.labels_hide_names.Goals as goal

pub returns : goal.returns
returns c function args name = labels_first 1 function.lines (header_names function.header args) name
