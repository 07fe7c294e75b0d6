use Rattle.std.proofs.Common.{◌≤◌, length}
use Rattle.refusal_lines.proofs.party.stranger_at.Given as goal

abbrev pub invariant-loop-digits : goal.invariant-loop-digits
invariant-loop-digits l = length l.rest ≤ length l.line

abbrev pub decreases-loop-digits : goal.decreases-loop-digits
decreases-loop-digits l = length l.rest
