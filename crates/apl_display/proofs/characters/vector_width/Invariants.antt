use Rattle.std.proofs.Common.{◌≡◌, ◌+◌, ◌-◌, ◌^◌, min, length, take}
use Rattle.std.specs.List.{sum_by}
use Rattle.line_text.specs.Number.{number_width}
use Rattle.apl_display.proofs.characters.vector_width.Given as goal

abbrev pub invariant-loop-number : goal.invariant-loop-number
invariant-loop-number l = l.width ≡ min (length l.numbers - 1 + sum_by number_width (take l.number-index l.numbers)) (2 ^ 64 - 1)
