use Rattle.std.proofs.Common.{◌∙◌, sym, arith}
use Rattle.apl_arrays.proofs.Glyphs.{of_low, of_high}
use Rattle.apl_arrays.proofs.text.glyph_of_scalar.Goals as goal

pub returns-then-scalar-lt128 : goal.returns-then-scalar-lt128
returns-then-scalar-lt128 c =
    of_low c.args.scalar c.of_code.result (omega arith) c.of_code.ensures.known c.of_code.ensures.value

pub returns : goal.returns
returns c =
    of_high c.args.scalar c.in_ok-place.place c.of_code-2.result (sym c.place_of.ensures ∙ c.in_ok-place.was) c.of_code-2.ensures.known c.of_code-2.ensures.value
