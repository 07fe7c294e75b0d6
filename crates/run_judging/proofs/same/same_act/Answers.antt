use Rattle.std.proofs.lemmas.Bool.Decides.{Decides-at}
use Rattle.sv_plain.proofs.SameLemmas.{same_act_decides}
use Rattle.run_judging.proofs.same.same_act.Goals as goal

pub returns : goal.returns
returns c = Decides-at c.eq.result _ c.eq.ensures (same_act_decides c.args.one.now c.args.other.now)
