use Rattle.apl_workspace.proofs.Tables.{is_empty_table}
use Rattle.apl_workspace.proofs.few_names.FewNames.new.Goals as goal

pub invariant_of-result : goal.invariant_of-result
invariant_of-result c = is_empty_table c.new.result.items c.new.ensures.items
