use Rattle.std.proofs.Common.{◌≡◌, ◌≤◌, length, take}
use Rattle.sv_rules.specs.Journal.{journal_of}
use Rattle.sv_rules.specs.Control.{vector_of}
use Rattle.sv_plain.proofs.vectors.vector_of.Given as goal

-- no entry past those left says another
abbrev pub invariant-loop-left : goal.invariant-loop-left
invariant-loop-left l = record {
  within : l.left ≤ length l.entries;
  same : vector_of (journal_of (take l.left l.entries)) l.offer ≡ vector_of (journal_of l.entries) l.offer;
}

abbrev pub decreases-loop-left : goal.decreases-loop-left
decreases-loop-left l = l.left
