use Rattle.line_trees.proofs.Order.{tree_in_order}
use Rattle.line_trees.proofs.laws.nodes_are_in_order.Goals as goal

pub returns : goal.returns
returns c = record { in_order = tree_in_order }
