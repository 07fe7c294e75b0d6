use Rattle.apl_statements.proofs.Opened.{rows_open, rows_tell_zeros}
use Rattle.apl_machine.proofs.laws.rows_open_acts.Goals as goal

pub returns-clause-act : goal.returns-clause-act
returns-clause-act c = rows_open

pub returns-clause-none : goal.returns-clause-none
returns-clause-none c = rows_tell_zeros
