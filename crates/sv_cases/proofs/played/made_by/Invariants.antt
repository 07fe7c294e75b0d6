use Rattle.std.proofs.Common.{◌≡◌}
use Rattle.sv_cases.proofs.played.made_by.Given as goal

abbrev pub invariant-loop-count : goal.invariant-loop-count
invariant-loop-count l = l.core.users ≡ l.users
