use Rattle.std.specs.Prelude.{◌≡◌, min, reverse}
use Rattle.sv_rules.specs.Limits.{most_entries, most_journal_elements}
use Rattle.sv_rules.specs.Entries.{counted_entries, held_elements}
use Rattle.sv_kept.specs.declared.log.Log.TheInside.{Inside}
use Rattle.sv_kept.specs.Log.{PlainLog}
use Rattle.sv_kept.specs.Member.{HasMembers}

-- what callers see of a log
abbrev pub log_of : Inside → PlainLog
log_of l = record { users = l.users.items; journal = reverse l.journal.items; room = l.journal.room }

-- what is kept of users is that of the journal, and so are both counts, up to the limits
pub record IsLog (l : Inside) : Type 0 where
  pub members : HasMembers (reverse l.journal.items) l.users.items l.members
  pub counted : l.counted ≡ min (counted_entries (reverse l.journal.items)) most_entries
  pub elements : l.elements ≡ min (held_elements (reverse l.journal.items)) most_journal_elements
