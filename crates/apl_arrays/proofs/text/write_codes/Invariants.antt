use Rattle.std.proofs.Common.{◌≡◌, ◌+◌, ◌++◌, length, take}
use Rattle.std.specs.List.{All}
use Rattle.apl_arrays.specs.Glyph.{IsGlyph}
use Rattle.apl_arrays.proofs.text.write_codes.Given as goal

abbrev pub invariant-loop-place : goal.invariant-loop-place
invariant-loop-place l = record {
  whole : length l.bytes ≡ l.start + length l.line;
  written : take (l.start + l.place) l.bytes ≡ take l.start l.fn.bytes ++ take l.place l.line;
  glyphs : All IsGlyph (take l.place l.line);
}
