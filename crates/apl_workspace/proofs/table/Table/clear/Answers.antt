use Rattle.std.proofs.Common.{ap}
use Rattle.apl_workspace.specs.Sorted.{sorted}
use Rattle.apl_workspace.proofs.Tables.{is_empty_table}
use Rattle.apl_workspace.proofs.table.Table.clear.Goals as goal

pub invariant_of-self : goal.invariant_of-self
invariant_of-self c = is_empty_table c.clear.new.self.entries c.clear.ensures.empty

pub returns : goal.returns
returns c = ap sorted c.clear.ensures.empty
