use Rattle.std.proofs.Common.{◌-◌, length}
use Rattle.line_scanner.proofs.Numbers.{IsReadTo}
use Rattle.line_scanner.proofs.constant.numbers_from.Given as goal

-- the numbers so far and those to come are the numbers of the constant
abbrev pub invariant-loop-next : goal.invariant-loop-next
invariant-loop-next l = IsReadTo l.fn.first l.fn.taken l.glyphs l.numbers.items l.end

-- the glyphs that are left
abbrev pub decreases-loop-next : goal.decreases-loop-next
decreases-loop-next l = length l.glyphs - l.end
