use Rattle.apl_meaning.proofs.Opens.{opening_line}
use Rattle.apl_meaning.proofs.laws.offers_and_queries_come_first.Goals as goal

pub returns : goal.returns
returns c = opening_line
