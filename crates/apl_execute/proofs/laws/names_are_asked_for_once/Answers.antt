use Rattle.apl_execute.proofs.MergeLaw.{mentioned_among, mentioned_once}
use Rattle.apl_execute.proofs.laws.names_are_asked_for_once.Goals as goal

pub returns-clause-same : goal.returns-clause-same
returns-clause-same c = mentioned_among

pub returns-clause-once : goal.returns-clause-once
returns-clause-once c = mentioned_once
