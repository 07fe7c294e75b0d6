use Rattle.std.proofs.Common.{◌≡◌, ◌*◌, ◌≤◌, length, map, take}
use Rattle.apl_arrays.specs.List.{glyphs_in}
use Rattle.line_text.specs.Lines.{content, lines_text}
use Rattle.bundle_text.proofs.offset.contents_size.Given as goal

abbrev pub invariant-loop-line : goal.invariant-loop-line
invariant-loop-line l = record {
  size : l.size ≡ length (lines_text (map content (map glyphs_in (take l.line-index l.lines))));
  small : l.size ≤ 3002 * l.line-index;
}
