use Rattle.std.proofs.Common.{◌≡◌, ◌≤◌, length, take}
use Rattle.sv_rules.specs.Journal.{journal_of}
use Rattle.sv_rules.specs.Work.{lacks_control}
use Rattle.sv_plain.proofs.working.lacks_control.Given as goal

-- no entry past those left says another
abbrev pub invariant-loop-left : goal.invariant-loop-left
invariant-loop-left l = record {
  within : l.left ≤ length l.entries;
  same : lacks_control (journal_of (take l.left l.entries)) l.offer l.coupling ≡ lacks_control (journal_of l.entries) l.offer l.coupling;
}

abbrev pub decreases-loop-left : goal.decreases-loop-left
decreases-loop-left l = l.left
