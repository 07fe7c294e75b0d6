use Rattle.std.proofs.Common.{◌≡◌, [], ◌∷◌}
use Rattle.sv_cases.proofs.filled.names.Given as goal

abbrev pub invariant-loop-number : goal.invariant-loop-number
invariant-loop-number l = l.core.users ≡ 1001 ∷ 1002 ∷ []
