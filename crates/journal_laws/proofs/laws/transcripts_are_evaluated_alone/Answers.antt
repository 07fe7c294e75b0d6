use Rattle.journal_laws.proofs.Reading.{evaluated_alone}
use Rattle.journal_laws.proofs.laws.transcripts_are_evaluated_alone.Goals as goal

pub returns : goal.returns
returns c = evaluated_alone
