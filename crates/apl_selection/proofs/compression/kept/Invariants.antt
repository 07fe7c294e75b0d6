use Rattle.std.proofs.Common.{◌≡◌, ◌≤◌, vec_len, vec_capacity}
use Rattle.apl_selection.specs.Compression.{kept_of}
use Rattle.apl_selection.proofs.compression.kept.Given as goal

-- the places so far whose flag is 1, with room for the others
abbrev pub invariant-loop-place : goal.invariant-loop-place
invariant-loop-place l = record {
  items : l.list.items ≡ kept_of l.flags l.long l.place;
  few : vec_len l.list ≤ l.place;
  room : vec_capacity l.list ≡ l.count;
}
