use Rattle.std.proofs.Common.{◌+◌, ◌≤◌, vec_len}
use Rattle.std.specs.Prelude.{vec_capacity}
use Rattle.party_turns.proofs.Filling.{AreApart}
use Rattle.party_turns.proofs.ending.take_apart.Given as goal

abbrev pub invariant-loop-seats : goal.invariant-loop-seats
invariant-loop-seats g l = record {
  apart : AreApart g.K.Shelf.told g.K.Shelf.faults l.fn.seats.items l.fn.shelves.items l.seats.items l.shelves.items l.transcripts.items l.is_whole;
  room : vec_len l.seats + vec_len l.shelves ≤ vec_capacity l.shelves;
}

abbrev pub decreases-loop-seats : goal.decreases-loop-seats
decreases-loop-seats g l = vec_len l.seats
