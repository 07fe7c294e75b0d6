use Rattle.session_rules.proofs.Taking.{one_by_one}
use Rattle.session_rules.proofs.session_laws.answers_are_taken_one_by_one.Goals as goal

pub returns : goal.returns
returns c = one_by_one
