use Rattle.apl_statements.proofs.Steps.{call_enters, line_begins}
use Rattle.apl_machine.proofs.laws.calls_and_lines_are_stacked.Goals as goal

pub returns-clause-call : goal.returns-clause-call
returns-clause-call c = call_enters

pub returns-clause-line : goal.returns-clause-line
returns-clause-line c = line_begins
