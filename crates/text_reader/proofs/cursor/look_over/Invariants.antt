use Rattle.std.proofs.Common.{take}
use Rattle.std.specs.List.{All}
use Rattle.apl_arrays.specs.Glyph.{IsGlyph}
use Rattle.text_reader.proofs.cursor.look_over.Given as goal

abbrev pub invariant-loop-glyph : goal.invariant-loop-glyph
invariant-loop-glyph l = All IsGlyph (take l.glyph-index l.line)
