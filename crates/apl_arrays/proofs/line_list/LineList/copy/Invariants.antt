use Rattle.std.proofs.Common.{◌≡◌, map, take}
use Rattle.apl_arrays.specs.List.{glyphs_in}
use Rattle.apl_arrays.proofs.line_list.LineList.copy.Given as goal

-- the lines so far
abbrev pub invariant-loop-line : goal.invariant-loop-line
invariant-loop-line l = map glyphs_in l.lines.items ≡ map glyphs_in (take l.line-index l.line-items)
