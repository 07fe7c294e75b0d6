use Rattle.std.proofs.Common.{◌≡◌, ◌+◌, ◌≤◌, ◌++◌, length, take}
use Rattle.line_text.proofs.text.add_glyphs.Given as goal

abbrev pub invariant-loop-glyph : goal.invariant-loop-glyph
invariant-loop-glyph l = record {
  text : l.line.items ≡ l.fn.line.items ++ take l.glyph-index l.glyphs;
  room : length l.glyphs ≤ l.fn.line.room → l.line.room + l.glyph-index ≡ l.fn.line.room;
}
