-- What lines of an output say, and where a line may stand behind others.
use Rattle.std.specs.Prelude.{◌+◌, ◌==◌, ◌&&◌, ℕ, Bool, true, false, nat_lt, List, [], ◌∷◌, ◌++◌, length, Option, Some, None, IsTrue}
use Rattle.std.specs.List.{slice_get}
use Rattle.std.specs.Option.{option_map_or}
use Rattle.line_text.specs.Lines.{line_text}
use Rattle.sv_events.specs.Entry.{PlainEntry}
use Rattle.sv_journal.specs.Output.{PlainTranscript}
use Rattle.printed_text.specs.Line.{IsOutputLine, PlainLine, end, entry, journal, line_glyphs, shown, user}

-- what the last heading began: nothing yet, the lines of a user so far, entries so far; or the end behind entries
pub data PlainSection : Type 0 where
  start : PlainSection
  of_user : PlainTranscript → PlainSection
  of_entries : List PlainEntry → PlainSection
  ended : List PlainEntry → PlainSection

-- what lines say: the transcripts that are whole, and what the last heading began
pub record PlainDraft : Type 0 where
  pub transcripts : List PlainTranscript
  pub section : PlainSection

-- no line says anything
abbrev pub nothing_read : PlainDraft
nothing_read = record { transcripts = []; section = start }

-- transcripts, and the one whose lines come
abbrev pub transcripts_with : List PlainTranscript → PlainSection → List PlainTranscript
transcripts_with transcripts (of_user one) = transcripts ++ one ∷ []
transcripts_with transcripts _ = transcripts

-- all transcripts so far
abbrev pub transcripts_so_far : PlainDraft → List PlainTranscript
transcripts_so_far draft = transcripts_with draft.transcripts draft.section

-- the journal was not begun
abbrev pub takes_headings : PlainSection → Bool
takes_headings start = true
takes_headings (of_user one) = true
takes_headings _ = false

-- the user whose lines come, if one's do
abbrev pub user_so_far : PlainSection → Option ℕ
user_so_far (of_user one) = Some one.user
user_so_far _ = None

-- the number is above that of the user before it, if there is one
abbrev pub is_above : Option ℕ → ℕ → Bool
is_above None number = true
is_above (Some last) number = nat_lt last number

-- this user comes behind so many: it is the next of those that are named; or, where none are, its number is above the last one
abbrev pub is_next : Option (List ℕ) → ℕ → Option ℕ → ℕ → Bool
is_next (Some users) count last number = option_map_or (λ user. user == number) (slice_get users count) false
is_next None count last number = is_above last number

-- so many users are all that are named; where none are, they may be all
abbrev pub are_all : Option (List ℕ) → ℕ → Bool
are_all (Some users) count = length users == count
are_all None count = true

-- the place is that of the next entry
abbrev pub is_next_place : PlainSection → ℕ → Bool
is_next_place (of_entries entries) place = place == length entries + 1
is_next_place _ place = false

-- entries may come
abbrev pub takes_entries : PlainSection → Bool
takes_entries (of_entries entries) = true
takes_entries _ = false

-- the lines of a user come
abbrev pub takes_shown : PlainSection → Bool
takes_shown (of_user one) = true
takes_shown _ = false

-- the end was read
abbrev pub is_at_end : PlainSection → Bool
is_at_end (ended entries) = true
is_at_end _ = false

-- where a line may stand, in an output of these users, or of any where none are named: the next user's heading, what a user saw under it, the journal's behind all users, entries under that, each with its place, and the end behind them
abbrev pub may_stand : Option (List ℕ) → PlainDraft → PlainLine → Bool
may_stand users draft (user number) = takes_headings draft.section && is_next users (length (transcripts_so_far draft)) (user_so_far draft.section) number
may_stand users draft (shown line) = takes_shown draft.section
may_stand users draft journal = takes_headings draft.section && are_all users (length (transcripts_so_far draft))
may_stand users draft (entry place e) = is_next_place draft.section place
may_stand users draft end = takes_entries draft.section

-- a section with one line more of what its user saw
abbrev pub longer : PlainSection → List ℕ → PlainSection
longer (of_user one) line = of_user (record { user = one.user; lines = one.lines ++ line ∷ [] })
longer section line = section

-- a section with one entry more
abbrev pub entry_added : PlainSection → PlainEntry → PlainSection
entry_added (of_entries entries) e = of_entries (entries ++ e ∷ [])
entry_added section e = section

-- the section behind the end
abbrev pub ended_behind : PlainSection → PlainSection
ended_behind (of_entries entries) = ended entries
ended_behind section = section

-- a section begins, so that the transcript before it is whole
abbrev pub section_begun : PlainDraft → PlainSection → PlainDraft
section_begun draft section = record { transcripts = transcripts_so_far draft; section = section }

-- what lines say with one line more
abbrev pub with_line : PlainDraft → PlainLine → PlainDraft
with_line draft (user number) = section_begun draft (of_user (record { user = number; lines = [] }))
with_line draft (shown line) = record draft { section = longer draft.section line }
with_line draft journal = section_begun draft (of_entries [])
with_line draft (entry place e) = record draft { section = entry_added draft.section e }
with_line draft end = record draft { section = ended_behind draft.section }

-- what lines say, the last one first
abbrev pub said : List PlainLine → PlainDraft
said [] = nothing_read
said (line ∷ before) = with_line (said before) line

-- the entries so far
abbrev pub entries_in : PlainSection → List PlainEntry
entries_in (of_entries entries) = entries
entries_in (ended entries) = entries
entries_in _ = []

-- a line may stand behind what was said
pub record IsSound (users : Option (List ℕ)) (draft : PlainDraft) (line : PlainLine) : Type 0 where
  pub form : IsOutputLine line
  pub place : IsTrue (may_stand users draft line)

-- lines, the last one first, each of which may stand behind those before it
abbrev pub AreSound : Option (List ℕ) → List PlainLine → Type 0
AreSound users [] = Unit {0}
AreSound users (line ∷ before) = IsSound users (said before) line × AreSound users before

-- the bytes of lines, the last one first, each with its line feed
abbrev pub text_before : List PlainLine → List ℕ
text_before [] = []
text_before (line ∷ before) = text_before before ++ line_text (line_glyphs line)
