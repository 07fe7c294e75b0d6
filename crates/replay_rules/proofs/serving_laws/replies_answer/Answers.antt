use Rattle.replay_rules.proofs.Serving.{replies_answer}
use Rattle.replay_rules.proofs.serving_laws.replies_answer.Goals as goal

pub returns : goal.returns
returns c = replies_answer
