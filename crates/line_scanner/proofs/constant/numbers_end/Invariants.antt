use Rattle.std.proofs.Common.{◌-◌, length}
use Rattle.line_scanner.proofs.Passed.{IsPastNumbers}
use Rattle.line_scanner.proofs.constant.numbers_end.Given as goal

-- the glyphs of some numbers
abbrev pub invariant-loop-more : goal.invariant-loop-more
invariant-loop-more l = IsPastNumbers l.fn.taken l.glyphs l.end

-- the glyphs that are left
abbrev pub decreases-loop-more : goal.decreases-loop-more
decreases-loop-more l = length l.glyphs - l.end
