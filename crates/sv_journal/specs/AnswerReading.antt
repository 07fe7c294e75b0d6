-- Reading answers.
use Rattle.std.specs.Prelude.{◌==◌, ◌&&◌, not, ◌∷◌, [], ℕ, zero, suc, Bool, true, false, Option, Some, None, List, Result, Ok, Err, codes, length, if◌then◌else◌}
use Rattle.apl_arrays.specs.Array.{PlainArray}
use Rattle.apl_arrays.specs.Glyph.{blank, plus}
use Rattle.sv_events.specs.Answer.{PlainAnswer, degree, granted, value, no_value, held, abandoned, not_shared, offer_limit, full, vector, parties, names, kept, done}
use Rattle.sv_events.specs.declared.row.AnswerKind.{AnswerKind}
use Rattle.sv_events.specs.declared.row.AnswerKind.TheVariants.{Degree, Granted, Value, NoValue, Held, Abandoned, NotShared, OfferLimit, Full, Vector, Parties, Names, Kept, Done}
use Rattle.apl_arrays.specs.List.{others_of}
use Rattle.text_reader.specs.Reading.{Reader, Reading, ◌>>=◌, as_read, begins_with, read_list, read_literal, read_name}
use Rattle.text_reader.specs.NumberReading.{read_number}
use Rattle.sv_text.specs.ValueReading.{read_array, read_value}
use Rattle.sv_journal.specs.ActReading.{read_local, read_party}
use Rattle.sv_journal.specs.HoldReading.{read_control, read_hold}
use Rattle.sv_journal.specs.WordReading.{read_word}

-- how each kind of answer is written
abbrev pub kind_word : AnswerKind → List ℕ
kind_word Degree = codes "degree"
kind_word Granted = codes "granted"
kind_word Value = codes "value"
kind_word NoValue = codes "novalue"
kind_word Held = codes "held"
kind_word Abandoned = codes "abandoned"
kind_word NotShared = codes "notshared"
kind_word OfferLimit = codes "limit"
kind_word Full = codes "full"
kind_word Vector = codes "vector"
kind_word Parties = codes "parties"
kind_word Names = codes "names"
kind_word Kept = codes "kept"
kind_word Done = codes "done"

-- a degree behind a blank
unfoldable pub read_degree : Reader ℕ
read_degree line = do
  rest ← read_literal (codes " ") line
  read_number 0 2 rest

-- a value that is told, behind a blank
unfoldable pub read_told : Reader PlainArray
read_told line = do
  rest ← read_literal (codes " ") line
  read_array rest

-- the degree before a retraction, and the value that is kept
unfoldable pub read_kept_parts : Reader (ℕ × Option PlainArray)
read_kept_parts line = do
  before ← read_degree line
  rest ← read_literal (codes " ") before.1
  known ← read_value rest
  Ok ((before.0, known.0), known.1)

-- what a retraction answers, behind its word
abbrev pub read_kept : Reader PlainAnswer
read_kept line = as_read (λ parts. kept parts.0 parts.1) (read_kept_parts line)

-- whether a list goes on: a blank stands there, and no pair begins with it
abbrev pub list_goes_on : List ℕ → Bool
list_goes_on line = begins_with blank line && not (begins_with plus (others_of line))

-- parties, up to the pairs or the end
abbrev pub read_parties : Reader (List ℕ)
read_parties line = read_list list_goes_on read_party (length line) line

-- names, up to the pairs or the end
abbrev pub read_names : Reader (List (List ℕ))
read_names line = read_list list_goes_on read_local (length line) line

-- what stands behind the word of an answer
abbrev pub answer_behind : AnswerKind → Reader PlainAnswer
answer_behind Degree line = as_read degree (read_degree line)
answer_behind Granted line = Ok (granted, line)
answer_behind Value line = as_read value (read_told line)
answer_behind NoValue line = Ok (no_value, line)
answer_behind Held line = as_read held (read_hold line)
answer_behind Abandoned line = as_read abandoned (read_hold line)
answer_behind NotShared line = Ok (not_shared, line)
answer_behind OfferLimit line = Ok (offer_limit, line)
answer_behind Full line = Ok (full, line)
answer_behind Vector line = as_read vector (read_control line)
answer_behind Parties line = as_read parties (read_parties line)
answer_behind Names line = as_read names (read_names line)
answer_behind Kept line = read_kept line
answer_behind Done line = Ok (done, line)

-- an answer of one of these kinds
unfoldable pub read_answer : List AnswerKind → Reader PlainAnswer
read_answer kinds line = do
  kind ← read_word kind_word 0 kinds line
  answer_behind kind.0 kind.1
