use Rattle.std.proofs.Common.{◌≡◌, map}
use Rattle.std.specs.List.{range_with_len}
use Rattle.apl_arrays.specs.Array.{seen_items}
use Rattle.apl_display.specs.Joined.{with_empty_lines}
use Rattle.apl_display.specs.Matrices.{matrix_lines}
use Rattle.apl_display.proofs.table.matrices_lines.Given as goal

abbrev pub invariant-loop-matrix : goal.invariant-loop-matrix
invariant-loop-matrix l =
    l.lines.items ≡ with_empty_lines (map (matrix_lines (seen_items l.table.items) l.table.extent) (range_with_len 0 l.matrix))
