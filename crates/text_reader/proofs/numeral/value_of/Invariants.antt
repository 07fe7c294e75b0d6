use Rattle.text_reader.proofs.Numerals.{DigitsTo}
use Rattle.text_reader.proofs.numeral.value_of.Given as goal

abbrev pub invariant-loop-glyph : goal.invariant-loop-glyph
invariant-loop-glyph l = DigitsTo l.digits l.glyph-index l.value
