use Rattle.std.proofs.Common.{◌≡◌, ◌+◌, ◌*◌, ◌≤◌, length, take}
use Rattle.apl_arrays.specs.Glyph.{line_utf8}
use Rattle.line_text.proofs.size.line_size.Given as goal

abbrev pub invariant-loop-glyph : goal.invariant-loop-glyph
invariant-loop-glyph l = record {
  size : l.size ≡ length (line_utf8 (take l.glyph-index l.line)) + 1;
  small : l.size ≤ 3 * l.glyph-index + 1;
}
