use Rattle.apl_statements.proofs.Steps.{lines_end, node_gives, node_steps}
use Rattle.apl_machine.proofs.laws.steps_change_nothing_to_come.Goals as goal

pub returns-clause-node : goal.returns-clause-node
returns-clause-node c = node_steps

pub returns-clause-value : goal.returns-clause-value
returns-clause-value c = node_gives

pub returns-clause-end : goal.returns-clause-end
returns-clause-end c = lines_end
