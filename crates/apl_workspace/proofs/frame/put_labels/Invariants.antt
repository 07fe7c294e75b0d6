use Rattle.std.proofs.Common.{◌≡◌, fold, take}
use Rattle.apl_workspace.specs.Frame.{with_labelled_line}
use Rattle.apl_workspace.proofs.frame.put_labels.Given as goal

-- the labels so far are in
abbrev pub invariant-loop-labelled : goal.invariant-loop-labelled
invariant-loop-labelled l = l.names ≡ fold with_labelled_line l.fn.names (take l.labelled-index l.labels)
