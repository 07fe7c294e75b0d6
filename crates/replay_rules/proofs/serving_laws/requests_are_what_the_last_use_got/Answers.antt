use Rattle.replay_rules.proofs.Serving.{requests_are_what_the_last_use_got}
use Rattle.replay_rules.proofs.serving_laws.requests_are_what_the_last_use_got.Goals as goal

pub returns : goal.returns
returns c = requests_are_what_the_last_use_got
