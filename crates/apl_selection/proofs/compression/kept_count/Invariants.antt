use Rattle.std.proofs.Common.{◌≡◌, ◌≤◌, length}
use Rattle.apl_selection.specs.Compression.{kept_of}
use Rattle.apl_selection.proofs.compression.kept_count.Given as goal

-- as many as are kept of the places so far
abbrev pub invariant-loop-at : goal.invariant-loop-at
invariant-loop-at l = record {
  counted : l.total ≡ length (kept_of l.flags l.long l.at);
  few : l.total ≤ l.at;
}
