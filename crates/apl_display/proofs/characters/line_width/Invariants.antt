use Rattle.std.proofs.Common.{◌≡◌, ◌+◌, ◌-◌, ◌^◌, min, length, take, sum}
use Rattle.apl_display.proofs.characters.line_width.Given as goal

abbrev pub invariant-loop-column : goal.invariant-loop-column
invariant-loop-column l = l.width ≡ min (length l.widths - 1 + sum (take l.column-index l.widths)) (2 ^ 64 - 1)
