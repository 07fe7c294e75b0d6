use Rattle.replay_rules.proofs.UserTurns.{users_take_turns}
use Rattle.replay_rules.proofs.laws.users_take_turns.Goals as goal

pub returns : goal.returns
returns c = users_take_turns
