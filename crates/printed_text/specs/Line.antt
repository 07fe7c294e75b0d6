-- What a line of an output is.
use Rattle.std.specs.Prelude.{◌≡◌, ◌≤◌, ℕ, List, All, codes}
use Rattle.apl_arrays.specs.Glyph.{IsGlyph, line_utf8}
use Rattle.apl_arrays.specs.Parties.{first_user, last_user}
use Rattle.line_text.specs.Lines.{content, end_line, heading}
use Rattle.sv_events.specs.Entry.{PlainEntry}
use Rattle.sv_journal.specs.EntryText.{entry_text}
use Rattle.sv_journal.specs.IsEntry.{IsEntry}

-- a line as plain data: the heading of a user, a line that the user saw, the heading of the journal, an entry at its place, the end
pub data PlainLine : Type 0 where
  user : ℕ → PlainLine
  shown : List ℕ → PlainLine
  journal : PlainLine
  entry : ℕ → PlainEntry → PlainLine
  end : PlainLine

-- the number of a user: 1001 to 1999
abbrev pub IsUserNumber : ℕ → Type 0
IsUserNumber number = (first_user ≤ number) × (number ≤ last_user)

-- a heading of a user, a line of glyphs, an entry that has a text
abbrev pub IsOutputLine : PlainLine → Type 0
IsOutputLine (user number) = IsUserNumber number
IsOutputLine (shown line) = All IsGlyph line
IsOutputLine journal = Unit {0}
IsOutputLine (entry place e) = IsEntry place e
IsOutputLine end = Unit {0}

-- the heading of the journal
abbrev pub journal_line : List ℕ
journal_line = codes "journal"

-- the glyphs of a line
abbrev pub line_glyphs : PlainLine → List ℕ
line_glyphs (user number) = heading number
line_glyphs (shown line) = content line
line_glyphs journal = journal_line
line_glyphs (entry place e) = entry_text place e
line_glyphs end = end_line

-- the bytes are the text of this line, without its line feed
abbrev pub IsTextOf : PlainLine → List ℕ → Type 0
IsTextOf line bytes = IsOutputLine line × (bytes ≡ line_utf8 (line_glyphs line))
