use Rattle.std.proofs.Common.{◌≡◌, ℕ, ◌-◌, ◌<◌, ◌≤◌, [], All, map, length, take, slice_index, vec_len, vec_capacity}
use Rattle.sv_turn.specs.Views.{maker_after}
use Rattle.sv_turn.specs.Seating.{IsNew}
use Rattle.sv_turn.proofs.opening.seat_all.Given as goal

abbrev pub invariant-loop-index : goal.invariant-loop-index
invariant-loop-index g l = (l.place.table_id ≡ l.fn.place.table_id)
    × ((last : ℕ) × (l.place.me ≡ (maker_after (length l.parties - l.index) l.fn.place.me.0.members last, [])) × (l.index < length l.parties → last < slice_index l.parties l.index))
    × (vec_len l.list ≡ l.index) × (length l.parties ≤ vec_capacity l.list)
    × (map (λ seat. seat.party) l.list.items ≡ take l.index l.parties)
    × All (IsNew l.shared.table_id l.fn.place.me.0.members) l.list.items
