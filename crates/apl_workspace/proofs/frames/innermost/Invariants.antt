use Rattle.std.proofs.Common.{◌≡◌, ◌≤◌, length, take, reverse}
use Rattle.apl_workspace.specs.Workspace.{innermost}
use Rattle.apl_workspace.proofs.frames.innermost.Given as goal

-- the frames that are left have of the name what all have
abbrev pub invariant-loop-at : goal.invariant-loop-at
invariant-loop-at l = record {
  same : innermost (reverse (take l.at l.frames)) l.name ≡ innermost (reverse l.frames) l.name;
  within : l.at ≤ length l.frames;
}

-- the frames that are left
abbrev pub decreases-loop-at : goal.decreases-loop-at
decreases-loop-at l = l.at
