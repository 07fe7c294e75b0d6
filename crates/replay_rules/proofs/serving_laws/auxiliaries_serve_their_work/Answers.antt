use Rattle.replay_rules.proofs.Serving.{serves_its_work}
use Rattle.replay_rules.proofs.serving_laws.auxiliaries_serve_their_work.Goals as goal

pub returns : goal.returns
returns c = serves_its_work
