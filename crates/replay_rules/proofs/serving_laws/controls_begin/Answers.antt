use Rattle.replay_rules.proofs.Serving.{controls_begin}
use Rattle.replay_rules.proofs.serving_laws.controls_begin.Goals as goal

pub returns : goal.returns
returns c = controls_begin
