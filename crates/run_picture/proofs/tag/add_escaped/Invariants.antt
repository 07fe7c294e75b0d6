use Rattle.std.proofs.Common.{◌≡◌, ◌++◌, take}
use Rattle.std.specs.List.{flat_map}
use Rattle.run_picture.specs.Escape.{escape}
use Rattle.run_picture.proofs.tag.add_escaped.Given as goal

-- the glyphs so far
abbrev pub invariant-loop-glyph : goal.invariant-loop-glyph
invariant-loop-glyph l = l.line.items ≡ l.fn.line.items ++ flat_map escape (take l.glyph-index l.text)
