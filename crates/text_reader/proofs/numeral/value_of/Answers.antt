use Rattle.std.proofs.Common.{◌≡◌, ◌+◌, ◌*◌, min, sym, arith}
use Rattle.text_reader.proofs.Numerals.{one_digit_more}
use Rattle.text_reader.proofs.numeral.value_of.Goals as goal

pub loop-glyph-preserved : goal.loop-glyph-preserved
loop-glyph-preserved c =
    let sum : c.saturating_add-value.result ≡ min (min (c.loop-glyph.value * 10) 18446744073709551615 + c.in_ok-digit.field-0) 18446744073709551615 = omega (arith, c.saturating_mul.ensures, c.saturating_add-value.ensures) in
    one_digit_more c.args.digits.now c.loop-glyph.glyph-index c.loop-glyph.value c.glyph-item.result c.in_ok-digit.field-0 c.saturating_add-value.result c.glyph-item.result c.loop-glyph.invariant (omega arith) c.glyph-item.is (sym c.in_ok-digit.ensures) sum
