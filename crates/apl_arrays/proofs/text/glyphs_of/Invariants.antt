use Rattle.std.proofs.Common.{◌≡◌, ◌++◌, length}
use Rattle.std.specs.List.{All}
use Rattle.apl_arrays.specs.Glyph.{IsGlyph, line_utf8}
use Rattle.apl_arrays.proofs.text.glyphs_of.Given as goal

abbrev pub invariant-loop-glyph : goal.invariant-loop-glyph
invariant-loop-glyph l = record { glyphs : All IsGlyph l.line.items; whole : l.bytes ≡ line_utf8 l.line.items ++ l.rest }

abbrev pub decreases-loop-glyph : goal.decreases-loop-glyph
decreases-loop-glyph l = length l.rest
