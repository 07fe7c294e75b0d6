use Rattle.replay_rules.proofs.SoFar.{held_on}
use Rattle.replay_rules.proofs.so_far_laws.held_users_wait.Goals as goal

pub returns : goal.returns
returns c = held_on
