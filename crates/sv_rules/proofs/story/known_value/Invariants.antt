use Rattle.std.proofs.Common.{◌≡◌, ◌≤◌, length, take}
use Rattle.sv_rules.specs.Journal.{journal_of}
use Rattle.sv_rules.specs.Story.{known}
use Rattle.sv_rules.proofs.story.known_value.Given as goal

-- no entry past those left tells the known value
abbrev pub invariant-loop-left : goal.invariant-loop-left
invariant-loop-left l = record {
  within : l.left ≤ length l.entries;
  same : known (journal_of (take l.left l.entries)) l.offer ≡ known (journal_of l.entries) l.offer;
}

abbrev pub decreases-loop-left : goal.decreases-loop-left
decreases-loop-left l = l.left
