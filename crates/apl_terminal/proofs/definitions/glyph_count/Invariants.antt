use Rattle.std.proofs.Common.{◌≡◌, ◌-◌, ◌^◌, min, take, map}
use Rattle.apl_arrays.specs.List.{glyphs_in}
use Rattle.apl_terminal.specs.Terminal.{glyph_count}
use Rattle.apl_terminal.proofs.definitions.glyph_count.Given as goal

-- the glyphs of the lines so far
abbrev pub invariant-loop-line : goal.invariant-loop-line
invariant-loop-line l = l.count ≡ min (glyph_count (map glyphs_in (take l.line-index l.lines))) (2 ^ 64 - 1)
