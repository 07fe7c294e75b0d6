use Rattle.std.proofs.Common.{◌≡◌}
use Rattle.sv_cases.proofs.retries.still_held_are_told.Given as goal

-- the users stay
abbrev pub invariant-loop-user : goal.invariant-loop-user
invariant-loop-user l = l.core.users ≡ l.fn.core.users
