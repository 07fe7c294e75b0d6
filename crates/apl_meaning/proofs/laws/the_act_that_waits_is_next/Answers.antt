use Rattle.apl_meaning.proofs.Lines.{line_next}
use Rattle.apl_meaning.proofs.laws.the_act_that_waits_is_next.Goals as goal

pub returns : goal.returns
returns c = line_next
