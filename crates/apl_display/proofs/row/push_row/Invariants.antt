use Rattle.std.proofs.Common.{◌≡◌, ◌++◌, take, map}
use Rattle.std.specs.List.{zip}
use Rattle.line_text.specs.Spaced.{spaced}
use Rattle.apl_display.specs.Matrices.{cell}
use Rattle.apl_display.proofs.row.push_row.Given as goal

abbrev pub invariant-loop-column : goal.invariant-loop-column
invariant-loop-column l = l.line.items ≡ l.fn.line.items ++ spaced (map cell (take l.column (zip l.widths l.row)))
