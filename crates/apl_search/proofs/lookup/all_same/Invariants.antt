use Rattle.std.proofs.Common.{◌≡◌, ◌+◌, ◌≤◌, length, take, map}
use Rattle.apl_search.proofs.lookup.all_same.Given as goal

-- the number for each item so far, with room for the others
abbrev pub invariant-loop-item : goal.invariant-loop-item
invariant-loop-item g l = record {
  items : l.numbers.items ≡ map (λ item. l.number) (take l._item-index l.list);
  room : length l.list ≤ l.numbers.room + l._item-index;
}
