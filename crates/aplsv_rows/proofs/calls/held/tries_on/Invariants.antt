use Rattle.std.proofs.Common.{◌≡◌}
use Rattle.aplsv_rows.proofs.calls.held.tries_on.Given as goal

-- the users stay
abbrev pub invariant-loop-attempt : goal.invariant-loop-attempt
invariant-loop-attempt l = l.core.users ≡ l.fn.core.users
