use Rattle.std.proofs.Common.{◌≡◌, ◌+◌, ◌-◌, ◌*◌, ◌≤◌, ◌++◌, length, take, vec_len, vec_capacity}
use Rattle.std.specs.List.{All}
use Rattle.apl_arrays.specs.Glyph.{IsGlyph, line_utf8}
use Rattle.apl_arrays.proofs.text.add_utf8.Given as goal

abbrev pub invariant-loop-glyph : goal.invariant-loop-glyph
invariant-loop-glyph l = record {
  glyphs : All IsGlyph (take l.glyph-index l.line);
  room : vec_len l.bytes + 4 * (length l.line - l.glyph-index) ≤ vec_capacity l.bytes;
  text : l.bytes.items ≡ l.fn.bytes.items ++ line_utf8 (take l.glyph-index l.line);
}
