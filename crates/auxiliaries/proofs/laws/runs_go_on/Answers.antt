use Rattle.std.proofs.Common.{refl}
use Rattle.auxiliaries.proofs.laws.runs_go_on.Goals as goal

pub returns : goal.returns
returns g c = record {
  starts = λ state. refl;
  forgets = λ start before after events party run step. (before, run, step);
  replies = λ start before after events party value answer run step. (before, run, step);
}
