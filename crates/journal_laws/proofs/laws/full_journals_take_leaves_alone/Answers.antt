use Rattle.journal_laws.proofs.Reading.{full_takes_leaves}
use Rattle.journal_laws.proofs.laws.full_journals_take_leaves_alone.Goals as goal

pub returns : goal.returns
returns c = full_takes_leaves
