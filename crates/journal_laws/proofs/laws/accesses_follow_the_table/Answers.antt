use Rattle.journal_laws.proofs.Reading.{accesses_follow}
use Rattle.journal_laws.proofs.laws.accesses_follow_the_table.Goals as goal

pub returns : goal.returns
returns c = accesses_follow c.answer_law.ensures.granted c.answer_law.ensures.refused c.control_law.ensures.table
