use Rattle.std.proofs.Common.{◌≡◌, ℕ, ◌<◌, get_or}
use Rattle.sv_offers.specs.declared.slots.Slot.{Slot}
use Rattle.sv_offers.proofs.slots.place_of.Given as goal

-- the slot is none of those so far
abbrev pub invariant-loop-at : goal.invariant-loop-at
invariant-loop-at l = (k : ℕ) (other : Slot) → k < l.at → get_or l.slots k other ≡ l.slot → ⊥
