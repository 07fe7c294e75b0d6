use Rattle.apl_meaning.proofs.Lines.{line_takes}
use Rattle.apl_meaning.proofs.laws.answers_are_taken_one_by_one.Goals as goal

pub returns : goal.returns
returns c = line_takes
