use Rattle.std.specs.Prelude.{ℕ, ◌+◌, List, [], ◌∷◌, ◌++◌, codes}
use Rattle.std.specs.List.{flat_map}
use Rattle.sv_events.specs.Entry.{PlainEntry}
use Rattle.line_text.specs.Lines.{user_lines, end_line, lines_text}
use Rattle.sv_journal.specs.EntryText.{entry_text}

-- a transcript as plain data: whose it is, and its lines
pub record PlainTranscript : Type 0 where
  pub user : ℕ
  pub lines : List (List ℕ)

-- a user's heading and lines
abbrev pub transcript_lines : PlainTranscript → List (List ℕ)
transcript_lines transcript = user_lines transcript.user transcript.lines

-- the entries, numbered on from a place
abbrev pub entry_lines : ℕ → List PlainEntry → List (List ℕ)
entry_lines place [] = []
entry_lines place (entry ∷ entries) = entry_text place entry ∷ entry_lines (place + 1) entries

-- the journal between its heading and the end
abbrev pub journal_lines : List PlainEntry → List (List ℕ)
journal_lines entries = codes "journal" ∷ (entry_lines 1 entries ++ end_line ∷ [])

-- all lines that are written: the transcripts, and the journal with its oldest entry first
abbrev pub output_lines : List PlainTranscript → List PlainEntry → List (List ℕ)
output_lines transcripts journal = flat_map transcript_lines transcripts ++ journal_lines journal

-- the bytes that are written
abbrev pub output_text : List PlainTranscript → List PlainEntry → List ℕ
output_text transcripts journal = lines_text (output_lines transcripts journal)
