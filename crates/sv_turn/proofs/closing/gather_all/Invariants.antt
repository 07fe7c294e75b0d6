use Rattle.std.proofs.Common.{◌≡◌, ◌<◌, [], All, map, length, take, drop}
use Rattle.sv_turn.specs.declared.view.SeatStage.TheVariants.{Away}
use Rattle.sv_turn.specs.Views.{accounts_of}
use Rattle.sv_turn.specs.Seating.{IsClosed, party_and_places, seat_account}
use Rattle.sv_turn.proofs.closing.gather_all.Given as goal

abbrev pub invariant-loop-index : goal.invariant-loop-index
invariant-loop-index g l = (l.place.table_id ≡ l.shared.table_id) × (l.place.me.1 ≡ []) × (l.place.me.0.stage ≡ Away) × (0 < l.place.me.0.account.party) × (l.place.me.0.weight ≡ l.index)
    × (accounts_of l.place.me.0 ≡ map seat_account (take l.index l.fn.list.items))
    × (map party_and_places l.list.items ≡ map party_and_places l.fn.list.items)
    × All IsClosed (take l.index l.list.items)
    × (drop l.index l.list.items ≡ drop l.index l.fn.list.items)
    × (length l.list.items ≡ length l.fn.list.items)
