use Rattle.replay_rules.proofs.SoFar.{refused_on}
use Rattle.replay_rules.proofs.so_far_laws.full_is_heard.Goals as goal

pub returns : goal.returns
returns c = refused_on
