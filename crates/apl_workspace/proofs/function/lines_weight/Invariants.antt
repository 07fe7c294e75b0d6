use Rattle.std.proofs.Common.{◌≡◌, ◌+◌, min, take, map}
use Rattle.apl_arrays.specs.List.{glyphs_in}
use Rattle.apl_workspace.specs.Function.{lines_weight}
use Rattle.apl_workspace.specs.Limits.{most_weight}
use Rattle.apl_workspace.proofs.function.lines_weight.Given as goal

-- the lines so far, or one more than the limit
abbrev pub invariant-loop-line : goal.invariant-loop-line
invariant-loop-line l = l.weight ≡ min (lines_weight (map glyphs_in (take l.line-index l.lines))) (most_weight + 1)
