use Rattle.std.proofs.Common.{◌≡◌, ◌≤◌, length, map, take, vec_len, vec_capacity}
use Rattle.apl_items.specs.Places.{places}
use Rattle.apl_selection.specs.Expansion.{ones, spread_at}
use Rattle.apl_selection.proofs.expansion.spread.Given as goal

-- the places for the flags so far, with room for the others, and how many of these flags are 1
abbrev pub invariant-loop-flag : goal.invariant-loop-flag
invariant-loop-flag l = record {
  items : l.list.items ≡ map (spread_at l.flags l.long) (places l.flag-index);
  whole : vec_len l.list ≡ l.flag-index;
  room : vec_capacity l.list ≡ length l.flags;
  ones : l.place ≡ ones (take l.flag-index l.flags);
  few : l.place ≤ l.flag-index;
}
