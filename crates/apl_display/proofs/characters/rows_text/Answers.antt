use Rattle.std.proofs.Common.{ℕ, List, ◌++◌, ap, sym, ◌∙◌}
use Rattle.apl_display.specs.Matrices.{aligned, row_of}
use Rattle.apl_display.proofs.TextLemmas.{concat_more}
use Rattle.apl_display.proofs.characters.rows_text.Goals as goal

pub loop-row-preserved : goal.loop-row-preserved
loop-row-preserved c =
    let line : ℕ → List ℕ = λ row. aligned c.args.widths.now (row_of c.args.numbers.now c.args.columns row) in
    c.in_ok-push_row.ensures
    ∙ (ap (λ row. c.loop-row.text.items ++ aligned c.args.widths.now row) c.row_of.ensures.value
    ∙ (ap (λ text. text ++ line c.loop-row.row) c.loop-row.invariant
    ∙ sym (concat_more line c.loop-row.row)))
