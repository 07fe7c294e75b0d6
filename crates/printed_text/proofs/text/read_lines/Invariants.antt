use Rattle.std.proofs.Common.{length}
use Rattle.std.specs.Prelude.{option_copied}
use Rattle.printed_text.specs.Step.{IsReadTo}
use Rattle.printed_text.proofs.text.read_lines.Given as goal

abbrev pub invariant-loop-line : goal.invariant-loop-line
invariant-loop-line l = IsReadTo (option_copied l.users) l.text l.rest l.draft

abbrev pub decreases-loop-line : goal.decreases-loop-line
decreases-loop-line l = length l.rest
