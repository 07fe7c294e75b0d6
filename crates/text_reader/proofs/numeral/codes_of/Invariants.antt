use Rattle.std.proofs.Common.{◌≡◌, take}
use Rattle.text_reader.proofs.numeral.codes_of.Given as goal

abbrev pub invariant-loop-glyph : goal.invariant-loop-glyph
invariant-loop-glyph l = l.codes.items ≡ take l.glyph-index l.glyphs
