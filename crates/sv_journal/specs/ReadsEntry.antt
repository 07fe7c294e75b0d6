-- What a call reads of a line.
use Rattle.std.specs.Prelude.{◌≡◌, ◌-◌, ℕ, List, Result, Ok, Err}
use Rattle.sv_events.specs.Entry.{PlainEntry, plain_entry}
use Rattle.sv_events.specs.declared.entry.Entry.{Entry}
use Rattle.text_reader.specs.declared.unread.Unread.{Unread}
use Rattle.text_reader.specs.declared.unread.Unread.TheVariants.{Left, WantOfMemory as NoMemory}
use Rattle.sv_journal.specs.declared.entry_reading.EntryRefused.{EntryRefused}
use Rattle.sv_journal.specs.declared.entry_reading.EntryRefused.TheVariants.{BadEntry, WantOfMemory}
use Rattle.sv_journal.specs.EntryText.{entry_text}
use Rattle.sv_journal.specs.IsEntry.{IsEntry, DepartsAt}

-- what is answered where the reading of a line of so many glyphs stops
abbrev pub refusal : ℕ → Unread → EntryRefused
refusal count (Left left) = BadEntry (count - left)
refusal count NoMemory = WantOfMemory

-- why none is read
abbrev pub Departs : EntryRefused → List ℕ → Type 0
Departs (BadEntry at) line = DepartsAt line at
Departs WantOfMemory line = Unit {0}

-- the entry whose text the line is, or where the line departs from all entries' texts, unless memory ran out
abbrev pub ReadsEntry : Result (ℕ × Entry) EntryRefused → List ℕ → Type 0
ReadsEntry (Ok found) line = IsEntry found.0 (plain_entry found.1) × (line ≡ entry_text found.0 (plain_entry found.1))
ReadsEntry (Err why) line = Departs why line

-- this entry at this place, unless memory ran out
abbrev pub ReadsThisEntry : Result (ℕ × Entry) EntryRefused → ℕ → PlainEntry → Type 0
ReadsThisEntry (Ok found) place entry = (found.0 ≡ place) × (plain_entry found.1 ≡ entry)
ReadsThisEntry (Err why) place entry = why ≡ WantOfMemory
