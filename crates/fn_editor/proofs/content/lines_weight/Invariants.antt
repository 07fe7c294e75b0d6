use Rattle.std.proofs.Common.{◌≡◌, ◌+◌, map, min}
use Rattle.std.specs.Map.Iter.{deref}
use Rattle.apl_workspace.specs.Function.{lines_weight}
use Rattle.apl_workspace.specs.Limits.{most_weight}
use Rattle.fn_editor.proofs.content.lines_weight.Given as goal

-- the weight of the lines so far
abbrev pub invariant-loop-text : goal.invariant-loop-text
invariant-loop-text l = l.weight ≡ min (lines_weight (map deref l.yielded)) (most_weight + 1)
