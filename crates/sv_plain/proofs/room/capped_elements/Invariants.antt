use Rattle.std.proofs.Common.{◌≡◌, min, take}
use Rattle.sv_rules.specs.Entries.{held_elements}
use Rattle.sv_rules.specs.Journal.{journal_of}
use Rattle.sv_plain.proofs.room.capped_elements.Given as goal

-- the elements so far, up to the limit
abbrev pub invariant-loop-entry : goal.invariant-loop-entry
invariant-loop-entry l = l.held ≡ min (held_elements (journal_of (take l.entry-index l.entries))) 4194304
