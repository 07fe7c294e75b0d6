use Rattle.std.proofs.Common.{◌≡◌, ◌+◌, ◌≤◌, map, pos}
use Rattle.apl_items.specs.Places.{places}
use Rattle.apl_structure.proofs.counting.first_numbers.Given as goal

-- the numbers so far, with room for the others
abbrev pub invariant-loop-place : goal.invariant-loop-place
invariant-loop-place l = record {
  items : l.numbers.items ≡ map (λ place. pos (place + 1)) (places l.place);
  room : l.count ≤ l.numbers.room + l.place;
}
