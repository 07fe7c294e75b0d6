use Rattle.std.proofs.Common.{◌≡◌, [], ◌∷◌}
use Rattle.sv_cases.proofs.filled.asked.Given as goal

abbrev pub invariant-loop-asked : goal.invariant-loop-asked
invariant-loop-asked l = l.core.users ≡ 1001 ∷ 1002 ∷ []
