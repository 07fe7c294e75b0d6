use Rattle.std.proofs.Common.{ℕ, ◌*◌, List, get_or, sym, ap, ◌∙◌}
use Rattle.std.specs.Prelude.{slice_index_or}
use Rattle.apl_meaning.specs.Naming.{row_at}
use Rattle.apl_values.proofs.NamingSteps.{cut_row, row_is}
use Rattle.apl_values.proofs.naming.row_at.Goals as goal

pub returns : goal.returns
returns c =
    let glyphs : List ℕ = c.glyphs_in-glyphs.result.now in
    cut_row glyphs (c.args.row * get_or c.shape.result.now 1 0) (get_or c.shape.result.now 1 0) c.min.result c.min-2.result c.min.ensures c.min-2.ensures
    ∙ ap (λ (shape : List ℕ). row_at glyphs (get_or shape 1 0) c.args.row) c.shape.ensures.value
    ∙ ap (λ (glyphs : List ℕ). row_at glyphs (slice_index_or c.args.n.now.shape 1 0) c.args.row) c.glyphs_in-glyphs.ensures
    ∙ sym (row_is c.args.n.now c.args.row (sym c.if-not-has_rows.ensures) c.requires)
