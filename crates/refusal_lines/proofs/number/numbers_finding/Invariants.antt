use Rattle.std.proofs.Common.{◌≤◌, length}
use Rattle.refusal_lines.proofs.number.numbers_finding.Given as goal

abbrev pub invariant-loop-word : goal.invariant-loop-word
invariant-loop-word l = length l.rest ≤ length l.line

abbrev pub decreases-loop-word : goal.decreases-loop-word
decreases-loop-word l = length l.rest
