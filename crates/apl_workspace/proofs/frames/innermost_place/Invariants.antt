use Rattle.std.proofs.Common.{◌≡◌, ◌≤◌, None, length, drop, reverse}
use Rattle.apl_workspace.specs.Workspace.{innermost}
use Rattle.apl_workspace.proofs.frames.innermost_place.Given as goal

-- the frames that were looked at lack the name
abbrev pub invariant-loop-at : goal.invariant-loop-at
invariant-loop-at l = record {
  lacking : innermost (reverse (drop l.at l.frames)) l.name ≡ None;
  within : l.at ≤ length l.frames;
}

-- the frames that are left
abbrev pub decreases-loop-at : goal.decreases-loop-at
decreases-loop-at l = l.at
