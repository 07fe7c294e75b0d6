use Rattle.apl_workspace.proofs.InOrder.{taken_in_order}
use Rattle.apl_workspace.proofs.Tables.{is_table_without}
use Rattle.apl_workspace.proofs.table.Table.remove.Goals as goal

pub invariant_of-self : goal.invariant_of-self
invariant_of-self c =
    is_table_without _ c.args.self.now _ c.args.name.now c.self.inside.weight c.weight_at-before.result c.self.view_is c.self.invariant c.weight_at-before.ensures.value
    (taken_in_order c.self.inside.names.entries c.swap_remove.new.self.entries c.args.name.now c.swap_remove.ensures.updates.0)
