use Rattle.replay_rules.proofs.Retrying.{waiters_are_answered}
use Rattle.replay_rules.proofs.serving_laws.waiters_are_answered.Goals as goal

pub returns : goal.returns
returns c = waiters_are_answered
