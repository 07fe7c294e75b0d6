use Rattle.std.proofs.Common.{◌≡◌, ◌+◌, ◌*◌, ◌++◌, map}
use Rattle.std.specs.List.{range_with_len}
use Rattle.apl_arrays.specs.Array.{seen_items}
use Rattle.apl_display.specs.Matrices.{row_line}
use Rattle.apl_display.proofs.table.push_matrix.Given as goal

abbrev pub invariant-loop-row : goal.invariant-loop-row
invariant-loop-row l =
    l.lines.items ≡ l.fn.lines.items ++ map (λ row. row_line (seen_items l.fn.table.items) l.fn.table.extent (l.matrix * l.fn.table.extent.rows + row)) (range_with_len 0 l.row)
