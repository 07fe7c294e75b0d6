use Rattle.replay_rules.proofs.SoFar.{left_on}
use Rattle.replay_rules.proofs.so_far_laws.leavers_have_their_parts.Goals as goal

pub returns : goal.returns
returns c = left_on
