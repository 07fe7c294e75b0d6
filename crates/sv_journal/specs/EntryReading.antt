-- Reading entries.
use Rattle.std.specs.Prelude.{◌^◌, ◌+◌, ◌-◌, ◌∷◌, [], ℕ, Bool, is_some, List, Result, Ok, Err, codes, length}
use Rattle.sv_events.specs.Entry.{PlainEntry}
use Rattle.sv_events.specs.declared.entry.Pair.{Pair}
use Rattle.apl_arrays.specs.List.{first_of}
use Rattle.text_reader.specs.Reading.{Reader, Reading, ◌>>=◌, read_list, read_literal}
use Rattle.text_reader.specs.NumberReading.{read_number}
use Rattle.sv_journal.specs.ActReading.{read_act, read_party}
use Rattle.sv_journal.specs.ActWord.{word_of_act, answers_to}
use Rattle.sv_journal.specs.AnswerReading.{read_answer}

-- a pair, the lower place first
unfoldable pub read_pair : Reader Pair
read_pair line = do
  rest ← read_literal (codes " + ") line
  a ← read_number 1 (2 ^ 64 - 2) rest
  behind ← read_literal (codes " ") a.1
  b ← read_number (a.0 + 1) (2 ^ 64 - 1) behind
  Ok (record { a = a.0; b = b.0 }, b.1)

-- the line is not at its end
abbrev pub is_left : List ℕ → Bool
is_left line = is_some (first_of line)

-- pairs to the end of the line
abbrev pub read_pairs : Reader (List Pair)
read_pairs line = read_list is_left read_pair (length line) line

-- an entry to the end of the line, and its place
unfoldable pub read_entry : Reader (ℕ × PlainEntry)
read_entry line = do
  place ← read_number 1 (2 ^ 64 - 1) line
  party ← read_party place.1
  rest ← read_literal (codes " ") party.1
  act ← read_act rest
  behind ← read_literal (codes " : ") act.1
  answer ← read_answer (answers_to (word_of_act act.0)) behind
  made ← read_pairs answer.1
  Ok ((place.0, record { party = party.0; act = act.0; answer = answer.0; made = made.0 }), made.1)
