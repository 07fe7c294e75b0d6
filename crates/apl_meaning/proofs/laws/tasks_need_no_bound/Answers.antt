use Rattle.apl_meaning.proofs.Ran.{mean_ran, ran_lines, ran_text}
use Rattle.apl_meaning.proofs.laws.tasks_need_no_bound.Goals as goal

pub returns-clause-lines : goal.returns-clause-lines
returns-clause-lines c = ran_lines

pub returns-clause-text : goal.returns-clause-text
returns-clause-text c = ran_text

pub returns-clause-line : goal.returns-clause-line
returns-clause-line c = mean_ran
