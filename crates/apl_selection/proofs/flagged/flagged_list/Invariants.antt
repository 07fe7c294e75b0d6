use Rattle.std.proofs.Common.{◌≡◌, length, vec_capacity, vec_len}
use Rattle.apl_selection.specs.Compression.{kept_of, list_at}
use Rattle.apl_selection.proofs.flagged.flagged_list.Given as goal

-- the items so far whose flags are 1, with room for the others
abbrev pub invariant-loop-place : goal.invariant-loop-place
invariant-loop-place g l = record {
  items : l.made.items ≡ list_at l.fn.fill l.list (kept_of l.flags (length l.flags) l.place);
  len : vec_len l.made ≡ length (kept_of l.flags (length l.flags) l.place);
  room : vec_capacity l.made ≡ l.count;
}
