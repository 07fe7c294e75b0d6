use Rattle.std.proofs.Common.{length}
use Rattle.refusal_lines.proofs.shown.add_shown.Given as goal

abbrev pub decreases-loop-rest : goal.decreases-loop-rest
decreases-loop-rest l = length l.rest
