use Rattle.replay_rules.proofs.Serving.{others_tell_nothing}
use Rattle.replay_rules.proofs.serving_laws.other_work_tells_nothing.Goals as goal

pub returns : goal.returns
returns c = others_tell_nothing
