use Rattle.std.proofs.Common.{◌≡◌, ◌≤◌, length}
use Rattle.apl_selection.specs.Compression.{kept_of}
use Rattle.apl_selection.proofs.flagged.ones_of.Given as goal

-- as many as are kept of the places so far
abbrev pub invariant-loop-place : goal.invariant-loop-place
invariant-loop-place l = record {
  counted : l.total ≡ length (kept_of l.flags (length l.flags) l.place);
  few : l.total ≤ l.place;
}
