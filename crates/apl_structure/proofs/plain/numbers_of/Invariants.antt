use Rattle.std.proofs.Common.{◌≡◌, ◌+◌, ◌≤◌, length, take, map, pos}
use Rattle.apl_structure.proofs.plain.numbers_of.Given as goal

-- the axes so far, with room for the others
abbrev pub invariant-loop-axis : goal.invariant-loop-axis
invariant-loop-axis l = record {
  items : l.numbers.items ≡ map (λ axis. pos axis) (take l.axis-index l.shape);
  room : length l.shape ≤ l.numbers.room + l.axis-index;
}
