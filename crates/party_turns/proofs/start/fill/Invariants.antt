use Rattle.std.proofs.Common.{◌≡◌, ◌+◌, ◌≤◌, length, vec_len}
use Rattle.std.specs.Prelude.{vec_capacity}
use Rattle.party_turns.proofs.Filling.{AreFilled}
use Rattle.party_turns.proofs.start.fill.Given as goal

abbrev pub invariant-loop-user : goal.invariant-loop-user
invariant-loop-user g l = record {
  filled : AreFilled g.K.Shelf.told g.K.Shelf.faults l.yielded l.seats.items l.shelves.items l.fn.shelves.items;
  count : vec_len l.seats ≡ length l.yielded;
  total : vec_len l.seats + vec_len l.shelves ≡ vec_len l.fn.shelves;
  places : vec_len l.fn.users ≤ vec_capacity l.seats;
  room : vec_len l.seats + vec_len l.shelves ≤ vec_capacity l.shelves;
}
