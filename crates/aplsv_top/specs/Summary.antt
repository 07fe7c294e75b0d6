-- What is told of a measured run.
use Rattle.std.specs.Prelude.{◌≡◌, ◌==◌, ◌-◌, ℕ, Bool, List, [], ◌∷◌, Option, Some, codes, count_by, decimal, find, length, slice_get, sum_by}
use Rattle.std.specs.Option.{option_and_then}
use Rattle.line_text.specs.Lines.{content, end_line, lines_text}
use Rattle.line_text.specs.Spaced.{spaced}
use Rattle.sv_events.specs.Entry.{PlainEntry}
use Rattle.sv_journal.specs.Output.{PlainTranscript}
use Rattle.sv_rules.specs.Entries.{is_held, kind_of}

-- the entry was answered Held
unfoldable pub was_held : PlainEntry → Bool
was_held entry = is_held (kind_of entry.answer)

-- how many entries were
abbrev pub held_count : List PlainEntry → ℕ
held_count journal = count_by was_held journal

-- how many lines the transcripts have
abbrev pub line_count : List PlainTranscript → ℕ
line_count transcripts = sum_by (λ transcript. length transcript.lines) transcripts

-- the last of some lines
abbrev pub last_of : List (List ℕ) → Option (List ℕ)
last_of lines = slice_get lines (length lines - 1)

-- the last line of user 1002, who adds
abbrev pub last_line : List PlainTranscript → Option (List ℕ)
last_line transcripts = option_and_then (λ transcript. last_of transcript.lines) (find (λ transcript. transcript.user == 1002) transcripts)

-- a word, and a number behind it
abbrev pub summary_line : List ℕ → ℕ → List ℕ
summary_line word number = spaced (word ∷ decimal number ∷ [])

-- the numbers given, the entries, those that were held, the lines of all transcripts, and the last line of the user who adds
abbrev pub summary_text : ℕ → List PlainTranscript → List PlainEntry → List ℕ → List ℕ
summary_text n transcripts journal last =
    lines_text
    (summary_line (codes "load") n ∷ summary_line (codes "entries") (length journal) ∷ summary_line (codes "held") (held_count journal)
    ∷ summary_line (codes "lines") (line_count transcripts) ∷ content last ∷ end_line ∷ [])

-- the text is that, with the last line that there is
pub record IsSummary (n : ℕ) (transcripts : List PlainTranscript) (journal : List PlainEntry) (text : List ℕ) : Type 0 where
  pub last : List ℕ
  pub there : last_line transcripts ≡ Some last
  pub lines : text ≡ summary_text n transcripts journal last
