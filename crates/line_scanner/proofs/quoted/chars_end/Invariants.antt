use Rattle.line_scanner.proofs.Passed.{IsPastChars}
use Rattle.line_scanner.proofs.quoted.chars_end.Given as goal

-- the characters so far and those to come are those of the constant
abbrev pub invariant-loop-at : goal.invariant-loop-at
invariant-loop-at l = IsPastChars l.closing l.glyphs l.at
