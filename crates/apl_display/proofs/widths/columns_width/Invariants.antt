use Rattle.std.proofs.Common.{◌≡◌, ◌+◌, ◌-◌, ◌^◌, map, min, sum}
use Rattle.std.specs.List.{range_with_len}
use Rattle.apl_display.specs.Matrices.{column_width}
use Rattle.apl_display.proofs.widths.columns_width.Given as goal

abbrev pub invariant-loop-column : goal.invariant-loop-column
invariant-loop-column l = l.width ≡ min (l.columns - 1 + sum (map (column_width l.numbers l.columns l.rows) (range_with_len 0 l.column))) (2 ^ 64 - 1)
