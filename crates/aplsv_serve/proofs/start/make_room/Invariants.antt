use Rattle.std.proofs.Common.{◌≤◌, All, take}
use Rattle.std.specs.List.{AllZip}
use Rattle.sv_turn.specs.Seating.{spare_of}
use Rattle.aplsv_serve.proofs.Rows.{IsSameSeat}
use Rattle.aplsv_serve.proofs.start.make_room.Given as goal

abbrev pub invariant-loop-index : goal.invariant-loop-index
invariant-loop-index l = record {
  same : AllZip IsSameSeat l.fn.seats.items l.seats.items;
  room : All (λ seat. 2 ≤ spare_of seat) (take l.index l.seats.items);
}
