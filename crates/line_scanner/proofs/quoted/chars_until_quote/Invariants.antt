use Rattle.std.proofs.Common.{◌≡◌, false, drop}
use Rattle.line_scanner.specs.Scanning.{chars_from}
use Rattle.line_scanner.proofs.Chars.{onto}
use Rattle.line_scanner.proofs.quoted.chars_until_quote.Given as goal

-- the characters so far and those to come are those of the constant
abbrev pub invariant-loop-at : goal.invariant-loop-at
invariant-loop-at l = onto l.chars.items l.at (chars_from l.closing (drop l.at l.glyphs)) ≡ chars_from false l.glyphs
