use Rattle.std.proofs.Common.{◌≡◌, ◌≤◌, take}
use Rattle.sv_rules.specs.Entries.{counted_entries}
use Rattle.sv_rules.specs.Journal.{journal_of}
use Rattle.sv_plain.proofs.room.counted_entries.Given as goal

-- the entries so far that are no leaves
abbrev pub invariant-loop-entry : goal.invariant-loop-entry
invariant-loop-entry l = record {
  same : l.count ≡ counted_entries (journal_of (take l.entry-index l.entries));
  small : l.count ≤ l.entry-index;
}
