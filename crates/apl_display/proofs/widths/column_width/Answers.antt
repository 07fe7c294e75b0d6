use Rattle.std.proofs.Common.{◌∙◌, arith, rules}
use Rattle.std.proofs.lemmas.Grind.{common_steps}
use Rattle.apl_display.proofs.WidthLemmas.{one_number_more}
use Rattle.apl_display.proofs.widths.column_width.Goals as goal

pub loop-row-preserved : goal.loop-row-preserved
loop-row-preserved c =
    one_number_more c.args.numbers.now c.row_of.result.now c.args.columns c.loop-row.row c.args.column c.loop-row.width c.max-width.result c.requires.within c.row_of.ensures.value c.loop-row.invariant
    (c.max-width.ensures ∙ first_of (search rules, grind (arith, common_steps)))
