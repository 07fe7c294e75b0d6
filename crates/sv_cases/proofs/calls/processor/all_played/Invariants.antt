use Rattle.std.proofs.Common.{◌≡◌}
use Rattle.sv_cases.proofs.calls.processor.all_played.Given as goal

abbrev pub invariant-loop-place : goal.invariant-loop-place
invariant-loop-place l = l.core.users ≡ l.users
