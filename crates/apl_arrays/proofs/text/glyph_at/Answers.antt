use Rattle.apl_arrays.proofs.Glyphs.{no_glyph_where_no_scalar}
use Rattle.apl_arrays.proofs.text.glyph_at.Goals as goal

pub returns-in_err-scalar : goal.returns-in_err-scalar
returns-in_err-scalar c =
    let none = no_glyph_where_no_scalar c.args.bytes.now (rw c.in_err-scalar.was at c.scalar_at.ensures) in
    rw c.from_residual.ensures none
