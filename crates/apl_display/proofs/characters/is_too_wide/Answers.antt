use Rattle.std.proofs.Common.{◌+◌, ◌-◌, sum}
use Rattle.apl_display.specs.Matrices.{column_widths}
use Rattle.apl_display.proofs.FormatLemmas.{is_wide}
use Rattle.apl_display.proofs.characters.is_too_wide.Goals as goal

pub returns : goal.returns
returns c =
    is_wide (c.args.columns - 1 + sum (column_widths c.args.numbers.now c.args.columns c.args.rows)) c.args.rows c.columns_width.result c.saturating_mul.result c.requires.some c.columns_width.ensures c.saturating_mul.ensures
