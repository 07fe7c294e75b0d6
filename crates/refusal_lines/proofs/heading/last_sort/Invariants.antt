use Rattle.std.proofs.Common.{length}
use Rattle.refusal_lines.proofs.heading.last_sort.Given as goal

abbrev pub decreases-loop-line : goal.decreases-loop-line
decreases-loop-line l = length l.rest
