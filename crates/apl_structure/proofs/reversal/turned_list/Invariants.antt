use Rattle.std.proofs.Common.{◌≡◌, length, reverse, take, vec_capacity, vec_len}
use Rattle.apl_structure.proofs.reversal.turned_list.Given as goal

-- the last items so far, the last first, with room for the others
abbrev pub invariant-loop-gone : goal.invariant-loop-gone
invariant-loop-gone g l = record {
  whole : vec_len l.made ≡ l.gone;
  room : vec_capacity l.made ≡ length l.list;
  items : l.made.items ≡ take l.gone (reverse l.list);
}
