use Rattle.std.proofs.Common.{◌≡◌, map}
use Rattle.std.specs.List.{concat, range_with_len}
use Rattle.apl_display.specs.Matrices.{aligned, row_of}
use Rattle.apl_display.proofs.characters.rows_text.Given as goal

abbrev pub invariant-loop-row : goal.invariant-loop-row
invariant-loop-row l = l.text.items ≡ concat (map (λ row. aligned l.fn.widths (row_of l.fn.numbers l.fn.columns row)) (range_with_len 0 l.row))
