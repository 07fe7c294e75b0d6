use Rattle.apl_meaning.proofs.NodeLaw.{nodes_are_trees}
use Rattle.apl_meaning.proofs.laws.nodes_give_what_trees_give.Goals as goal

pub returns : goal.returns
returns c = nodes_are_trees
