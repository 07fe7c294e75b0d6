use Rattle.std.proofs.Common.{◌≡◌, ◌≤◌, length, take}
use Rattle.sv_rules.specs.Journal.{journal_of}
use Rattle.run_reasons.specs.Placed.{placed_control}
use Rattle.run_reasons.proofs.placed.control_at.Given as goal

-- no entry past those left set a later control
abbrev pub invariant-loop-left : goal.invariant-loop-left
invariant-loop-left l = record {
  within : l.left ≤ length l.entries;
  same : placed_control (journal_of (take l.left l.entries)) l.offer ≡ placed_control (journal_of l.entries) l.offer;
}

abbrev pub decreases-loop-left : goal.decreases-loop-left
decreases-loop-left l = l.left
