use Rattle.apl_statements.proofs.Steps.{branch_begins, execute_begins, whole_begins}
use Rattle.apl_machine.proofs.laws.statements_begin_at_their_first_node.Goals as goal

pub returns-clause-branch : goal.returns-clause-branch
returns-clause-branch c = branch_begins

pub returns-clause-whole : goal.returns-clause-whole
returns-clause-whole c = whole_begins

pub returns-clause-execute : goal.returns-clause-execute
returns-clause-execute c = execute_begins
