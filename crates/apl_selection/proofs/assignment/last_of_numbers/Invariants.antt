use Rattle.std.proofs.Common.{◌≡◌, ◌-◌, map, take, unsigned_abs}
use Rattle.apl_items.specs.Places.{places}
use Rattle.apl_selection.specs.Assignment.{last_place}
use Rattle.apl_selection.specs.Naming.{scaled_place}
use Rattle.apl_selection.proofs.assignment.last_of_numbers.Given as goal

-- the last places of the numbers so far
abbrev pub invariant-loop-place : goal.invariant-loop-place
invariant-loop-place l = l.table.items ≡ map (λ along. scaled_place l.stride (last_place along (map (λ number. unsigned_abs number - 1) (take l.place l.numbers)))) (places l.axis)
