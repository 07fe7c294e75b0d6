use Rattle.std.proofs.Common.{◌≡◌, ◌≤◌, length, take}
use Rattle.sv_rules.specs.Journal.{journal_of}
use Rattle.sv_rules.specs.Work.{owes_reply}
use Rattle.sv_plain.proofs.working.owes_reply.Given as goal

-- no entry past those left says another
abbrev pub invariant-loop-left : goal.invariant-loop-left
invariant-loop-left l = record {
  within : l.left ≤ length l.entries;
  same : owes_reply (journal_of (take l.left l.entries)) l.offer l.coupling ≡ owes_reply (journal_of l.entries) l.offer l.coupling;
}

abbrev pub decreases-loop-left : goal.decreases-loop-left
decreases-loop-left l = l.left
