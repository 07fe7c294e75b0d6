use Rattle.std.proofs.Common.{length}
use Rattle.refusal_lines.proofs.MarkLaws.{StandsIn}
use Rattle.refusal_lines.proofs.marked.line_at.Given as goal

abbrev pub invariant-loop-line : goal.invariant-loop-line
invariant-loop-line l = StandsIn l.bytes l.rest l.offset

abbrev pub decreases-loop-line : goal.decreases-loop-line
decreases-loop-line l = length l.rest
