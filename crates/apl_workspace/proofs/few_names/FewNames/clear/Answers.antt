use Rattle.apl_workspace.proofs.Tables.{is_empty_table}
use Rattle.apl_workspace.proofs.few_names.FewNames.clear.Goals as goal

pub invariant_of-self : goal.invariant_of-self
invariant_of-self c = is_empty_table c.clear.new.self.items c.clear.ensures.items
