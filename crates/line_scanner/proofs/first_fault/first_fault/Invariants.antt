use Rattle.std.proofs.Common.{◌-◌, length}
use Rattle.line_scanner.proofs.Passed.{IsPastTo}
use Rattle.line_scanner.proofs.first_fault.first_fault.Given as goal

-- some tokens were passed over
abbrev pub invariant-loop-length : goal.invariant-loop-length
invariant-loop-length l = IsPastTo l.glyphs l.at

-- the glyphs that are left
abbrev pub decreases-loop-length : goal.decreases-loop-length
decreases-loop-length l = length l.glyphs - l.at
