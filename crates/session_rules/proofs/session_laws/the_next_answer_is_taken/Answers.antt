use Rattle.session_rules.proofs.Taking.{next_is_taken}
use Rattle.session_rules.proofs.session_laws.the_next_answer_is_taken.Goals as goal

pub returns : goal.returns
returns c = next_is_taken
