use Rattle.std.proofs.Common.{◌≡◌, [], ◌∷◌}
use Rattle.sv_cases.proofs.filled.set_often.Given as goal

abbrev pub invariant-loop-set : goal.invariant-loop-set
invariant-loop-set l = l.core.users ≡ 1001 ∷ 1002 ∷ []
