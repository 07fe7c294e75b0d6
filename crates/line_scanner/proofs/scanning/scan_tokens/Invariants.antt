use Rattle.std.proofs.Common.{◌-◌, length}
use Rattle.line_scanner.proofs.Steps.{IsScannedTo}
use Rattle.line_scanner.proofs.scanning.scan_tokens.Given as goal

-- the tokens so far and those to come are those of the line
abbrev pub invariant-loop-tokens : goal.invariant-loop-tokens
invariant-loop-tokens l = IsScannedTo l.glyphs l.tokens.items l.at

-- the glyphs that are left
abbrev pub decreases-loop-tokens : goal.decreases-loop-tokens
decreases-loop-tokens l = length l.glyphs - l.at
