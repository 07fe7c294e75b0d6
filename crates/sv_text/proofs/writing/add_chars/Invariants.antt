use Rattle.std.proofs.Common.{◌≡◌, ◌++◌, take}
use Rattle.std.specs.List.{All, flat_map}
use Rattle.apl_arrays.specs.Glyph.{IsGlyph}
use Rattle.sv_text.specs.ValueText.{char_text}
use Rattle.sv_text.proofs.writing.add_chars.Given as goal

abbrev pub invariant-loop-glyph : goal.invariant-loop-glyph
invariant-loop-glyph l = record {
  text : l.line.items ≡ l.fn.line.items ++ flat_map char_text (take l.glyph-index l.glyphs);
  printable : All IsGlyph (take l.glyph-index l.glyphs);
}
