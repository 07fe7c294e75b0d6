use Rattle.journal_laws.proofs.Reading.{uses_give}
use Rattle.journal_laws.proofs.laws.uses_give_the_last_value.Goals as goal

pub returns : goal.returns
returns c = uses_give c.answer_law.ensures.gets c.answer_law.ensures.no_value c.control_law.ensures.table
