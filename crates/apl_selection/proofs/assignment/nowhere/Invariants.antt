use Rattle.std.proofs.Common.{◌≡◌, None, map, vec_capacity, vec_len}
use Rattle.apl_items.specs.Places.{places}
use Rattle.apl_selection.proofs.assignment.nowhere.Given as goal

-- so many so far, with room for the others
abbrev pub invariant-loop-along : goal.invariant-loop-along
invariant-loop-along l = record {
  items : l.table.items ≡ map (λ _. None) (places l._along);
  len : vec_len l.table ≡ l._along;
  room : vec_capacity l.table ≡ l.axis;
}
