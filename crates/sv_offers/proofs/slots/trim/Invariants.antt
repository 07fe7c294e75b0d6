use Rattle.std.proofs.Common.{◌≡◌, ◌≤◌, vec_len, vec_capacity}
use Rattle.sv_offers.specs.Slots.{SlotsByMaking, couplings_in}
use Rattle.sv_offers.proofs.slots.trim.Given as goal

-- the couplings and their order are the same
abbrev pub invariant-loop-slots : goal.invariant-loop-slots
invariant-loop-slots l = record {
  items : couplings_in l.slots.items ≡ couplings_in l.initial.slots.items;
  by_making : SlotsByMaking l.slots.items;
  len : vec_len l.slots ≤ vec_len l.initial.slots;
  capacity : vec_capacity l.slots ≡ vec_capacity l.initial.slots;
}

abbrev pub decreases-loop-slots : goal.decreases-loop-slots
decreases-loop-slots l = vec_len l.slots
