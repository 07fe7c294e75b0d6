use Rattle.std.proofs.Common.{◌≡◌, ◌+◌, ◌≤◌, ◌++◌, length, map, drop}
use Rattle.std.specs.Prelude.{All}
use Rattle.sv_rules.specs.Coupling.{recoupled}
use Rattle.sv_offers.proofs.room.recouple.Given as goal

-- the pairs so far and those still to come are all the pairs
abbrev pub invariant-loop-offer : goal.invariant-loop-offer
invariant-loop-offer l = record {
  items : l.coupled.items ++ recoupled l.at l.offers l.coupled.items (drop l.offer-index l.reopened) ≡ l.initial.coupled.items ++ recoupled l.at l.offers l.initial.coupled.items l.reopened;
  pairs : l.made.items ++ map (λ made. made.pair) (recoupled l.at l.offers l.coupled.items (drop l.offer-index l.reopened)) ≡ l.initial.made.items ++ map (λ made. made.pair) (recoupled l.at l.offers l.initial.coupled.items l.reopened);
  room : length (drop l.offer-index l.reopened) ≤ l.coupled.room;
  used : l.initial.coupled.room ≤ l.coupled.room + l.offer-index;
  earlier : All (λ made. made.at ≤ l.at) l.coupled.items;
  made_room : length (drop l.offer-index l.reopened) ≤ l.made.room;
}
