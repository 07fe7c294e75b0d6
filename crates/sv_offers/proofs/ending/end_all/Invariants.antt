use Rattle.std.proofs.Common.{◌≡◌, ◌≤◌, ◌+◌, length, vec_capacity}
use Rattle.sv_offers.proofs.EndLemmas.{EndedSoFar}
use Rattle.sv_offers.proofs.ending.end_all.Given as goal

-- some of the offers have ended
abbrev pub invariant-loop-offer : goal.invariant-loop-offer
invariant-loop-offer l = record {
  ended : EndedSoFar l.initial.offers l.initial.coupled.items l.party l.ending l.offers l.coupled.items l.reopened.items;
  few : length l.reopened.items + length l.offers ≤ length l.initial.offers;
  capacity : vec_capacity l.initial.reopened ≤ vec_capacity l.reopened;
  room : l.coupled.room ≡ l.initial.coupled.room;
}

abbrev pub decreases-loop-offer : goal.decreases-loop-offer
decreases-loop-offer l = length l.offers
