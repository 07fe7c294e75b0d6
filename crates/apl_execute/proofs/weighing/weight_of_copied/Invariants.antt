use Rattle.std.proofs.Common.{◌≡◌, ◌+◌, min, take}
use Rattle.apl_workspace.specs.Limits.{most_weight}
use Rattle.apl_execute.specs.Weighing.{copied_once, names_weight}
use Rattle.apl_execute.proofs.weighing.weight_of_copied.Given as goal

-- what those of the names so far weigh
abbrev pub invariant-loop-at : goal.invariant-loop-at
invariant-loop-at l = l.weight ≡ min (names_weight l.ws (copied_once l.into l.from (take l.at l.names))) (most_weight + 1)
