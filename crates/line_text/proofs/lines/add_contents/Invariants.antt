use Rattle.std.proofs.Common.{◌≡◌, ◌++◌, map, take}
use Rattle.std.specs.List.{All, flat_map}
use Rattle.apl_arrays.specs.Glyph.{IsGlyph}
use Rattle.apl_arrays.specs.List.{glyphs_in}
use Rattle.line_text.specs.Lines.{content, line_text}
use Rattle.line_text.proofs.lines.add_contents.Given as goal

abbrev pub invariant-loop-line : goal.invariant-loop-line
invariant-loop-line l = record {
  text : l.bytes.items ≡ l.fn.bytes.items ++ flat_map line_text (map content (map glyphs_in (take l.line-index l.lines)));
  printable : All (λ line. All IsGlyph line) (map glyphs_in (take l.line-index l.lines));
}
