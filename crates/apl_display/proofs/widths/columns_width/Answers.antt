use Rattle.std.proofs.Common.{◌+◌, ◌-◌, ◌^◌, ◌∙◌, ap, min}
use Rattle.apl_display.specs.Matrices.{column_width}
use Rattle.apl_display.proofs.WidthLemmas.{one_column_more}
use Rattle.apl_display.proofs.widths.columns_width.Goals as goal

pub loop-column-preserved : goal.loop-column-preserved
loop-column-preserved c =
    one_column_more (column_width c.args.numbers.now c.args.columns c.args.rows) c.args.columns c.loop-column.column c.loop-column.width c.saturating_add-width.result c.loop-column.invariant
    (c.saturating_add-width.ensures ∙ ap (λ more. min (c.loop-column.width + more) (2 ^ 64 - 1)) c.column_width.ensures)
