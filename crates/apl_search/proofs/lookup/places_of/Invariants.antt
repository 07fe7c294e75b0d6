use Rattle.std.proofs.Common.{◌≡◌, ◌+◌, ◌≤◌, length, take, map, pos}
use Rattle.std.specs.List.{position_or_len}
use Rattle.apl_search.proofs.lookup.places_of.Given as goal

-- the places of the items so far, with room for the others
abbrev pub invariant-loop-item : goal.invariant-loop-item
invariant-loop-item g l = record {
  items : l.places.items ≡ map (λ item. pos (position_or_len (g.T.PartialEq.eq item) l.a + 1)) (take l.item-index l.b);
  room : length l.b ≤ l.places.room + l.item-index;
}
