use Rattle.std.specs.Prelude.{List, map, reverse}
use Rattle.sv_events.specs.Entry.{plain_entry}
use Rattle.sv_events.specs.declared.entry.Entry.{Entry}
use Rattle.sv_rules.specs.Entries.{Entries}

-- the journal of entries that are kept with the oldest first
abbrev pub journal_of : List Entry → Entries
journal_of entries = reverse (map plain_entry entries)
