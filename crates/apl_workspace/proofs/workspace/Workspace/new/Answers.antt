use Rattle.apl_workspace.proofs.Inside.{new_inside}
use Rattle.apl_workspace.proofs.workspace.Workspace.new.Goals as goal

pub invariant_of-result : goal.invariant_of-result
invariant_of-result c = new_inside c.new.result c.new-2.result.items c.new-3.result.items c.new.ensures c.new-2.ensures.items c.new-3.ensures.items
