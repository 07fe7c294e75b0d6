use Rattle.std.proofs.Common.{◌≡◌, ◌*◌, Some, map, vec_capacity, vec_len}
use Rattle.apl_items.specs.Places.{places}
use Rattle.apl_selection.proofs.assignment.all_places.Given as goal

-- the places so far, with room for the others
abbrev pub invariant-loop-along : goal.invariant-loop-along
invariant-loop-along l = record {
  items : l.table.items ≡ map (λ along. Some (along * l.stride)) (places l.along);
  len : vec_len l.table ≡ l.along;
  room : vec_capacity l.table ≡ l.axis;
}
