use Rattle.std.proofs.Common.{◌≡◌, ◌≤◌, length, take}
use Rattle.sv_rules.specs.Journal.{journal_of}
use Rattle.run_reasons.specs.Why.{waits_since}
use Rattle.run_reasons.proofs.why.waits_since.Given as goal

-- no entry past those left is the party's
abbrev pub invariant-loop-left : goal.invariant-loop-left
invariant-loop-left l = record {
  within : l.left ≤ length l.entries;
  same : waits_since (journal_of (take l.left l.entries)) l.party ≡ waits_since (journal_of l.entries) l.party;
}

abbrev pub decreases-loop-left : goal.decreases-loop-left
decreases-loop-left l = l.left
