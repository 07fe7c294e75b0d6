use Rattle.std.proofs.Common.{◌≡◌}
use Rattle.apl_display.specs.Matrices.{column_width}
use Rattle.apl_display.proofs.widths.column_width.Given as goal

abbrev pub invariant-loop-row : goal.invariant-loop-row
invariant-loop-row l = l.width ≡ column_width l.numbers l.columns l.row l.column
