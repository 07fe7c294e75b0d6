use Rattle.replay_rules.proofs.SoFar.{others_keep}
use Rattle.replay_rules.proofs.so_far_laws.others_change_nothing.Goals as goal

pub returns : goal.returns
returns c = others_keep
