use Rattle.std.proofs.Common.{◌≡◌}
use Rattle.apl_display.specs.Matrices.{column_widths}
use Rattle.apl_display.proofs.widths.column_widths.Given as goal

abbrev pub invariant-loop-row : goal.invariant-loop-row
invariant-loop-row l = l.widths.items ≡ column_widths l.numbers l.columns l.row
