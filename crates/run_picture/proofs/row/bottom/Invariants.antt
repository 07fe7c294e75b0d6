use Rattle.std.proofs.Common.{◌≡◌, ◌≤◌, ◌+◌, ◌*◌, take}
use Rattle.std.specs.Prelude.{sum}
use Rattle.run_picture.proofs.row.bottom.Given as goal

-- the heights so far, below the head
abbrev pub invariant-loop-height : goal.invariant-loop-height
invariant-loop-height l = record {
  same : l.y ≡ 72 + sum (take l.height-index l.heights);
  small : l.y ≤ 72 + 404 * l.height-index;
}
