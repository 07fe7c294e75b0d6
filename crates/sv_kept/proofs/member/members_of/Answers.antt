use Rattle.std.proofs.Common.{arith}
use Rattle.std.proofs.lemmas.Grind.{common_steps}
use Rattle.std.proofs.lemmas.List.Folds.{list_any_more}
use Rattle.sv_kept.proofs.member.members_of.Goals as goal

pub loop-user-preserved : goal.loop-user-preserved
loop-user-preserved c = λ party. grind (arith, common_steps, list_any_more, c.loop-user.invariant party)
