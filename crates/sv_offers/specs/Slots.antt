-- Slots of couplings, in the order in which these were made: those that have ended leave theirs empty.
use Rattle.std.specs.Prelude.{◌-◌, Bool, false, List, length, filter_map, Option, Some, option_map}
use Rattle.std.specs.List.{slice_get}
use Rattle.std.specs.List.Sorted.{IsNonDecreasingBy}
use Rattle.std.specs.Option.{is_none, option_map_or}
use Rattle.sv_offers.specs.declared.slots.Slot.{Slot}
use Rattle.sv_rules.specs.declared.coupling.Made.{Made}

-- the coupling in a slot, if it has not ended
abbrev pub coupling_in : Slot → Option Made
coupling_in slot = option_map (λ pair. record { pair = pair; at = slot.at }) slot.pair

-- the couplings in slots
abbrev pub couplings_in : List Slot → List Made
couplings_in slots = filter_map coupling_in slots

-- the slot of a coupling
abbrev pub slot_of : Made → Slot
slot_of made = record { at = made.at; pair = Some made.pair }

-- the last of the slots is empty
abbrev pub ends_empty : List Slot → Bool
ends_empty slots = option_map_or (λ slot. is_none slot.pair) (slice_get slots (length slots - 1)) false

-- the slots come by the place of the act that made their couplings, those that are empty too
abbrev pub SlotsByMaking : List Slot → Type 0
SlotsByMaking slots = IsNonDecreasingBy (λ slot. slot.at) slots
