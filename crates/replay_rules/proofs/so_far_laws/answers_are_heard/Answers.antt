use Rattle.replay_rules.proofs.SoFar.{answered_on}
use Rattle.replay_rules.proofs.so_far_laws.answers_are_heard.Goals as goal

pub returns : goal.returns
returns c = answered_on
