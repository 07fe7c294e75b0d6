use Rattle.std.proofs.Common.{length}
use Rattle.bundle_text.specs.Step.{IsReadTo}
use Rattle.bundle_text.proofs.text.read_lines.Given as goal

abbrev pub invariant-loop-line : goal.invariant-loop-line
invariant-loop-line l = IsReadTo l.bytes l.rest l.draft

abbrev pub decreases-loop-line : goal.decreases-loop-line
decreases-loop-line l = length l.rest
