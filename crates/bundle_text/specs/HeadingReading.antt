-- Reading headings.
use Rattle.std.specs.Prelude.{◌==◌, ℕ, List, [], ◌∷◌, Ok, Err, length, codes, nat_le, if◌then◌else◌}
use Rattle.std.specs.List.{list_all}
use Rattle.apl_arrays.specs.Glyph.{blank}
use Rattle.apl_arrays.specs.Parties.{first_user, last_user}
use Rattle.text_reader.specs.Reading.{Reader, Reading, ◌>>=◌, as_read, begins_with, read_file_name, read_list, read_literal, read_behind}
use Rattle.text_reader.specs.NumberReading.{read_number}
use Rattle.text_reader.specs.Numeral.{read_count}
use Rattle.bundle_text.specs.Heading.{PlainHeading, user_heading, turns_heading, file_heading, readings_heading, end_heading}
use Rattle.bundle_text.specs.Limits.{greatest_reading}

-- a number behind a blank
unfoldable pub read_next_count : Reader ℕ
read_next_count line = do
  rest ← read_literal (codes " ") line
  read_count rest

-- one number at least, with one blank between each two
unfoldable pub read_counts : Reader (List ℕ)
read_counts line = do
  first ← read_count line
  read_behind (first.0 ∷ []) (read_list (begins_with blank) read_next_count (length first.1) first.1)

-- the heading of a user
unfoldable pub read_user : Reader PlainHeading
read_user line = do
  rest ← read_literal (codes "user ") line
  as_read user_heading (read_number first_user last_user rest)

-- the heading of turns
unfoldable pub read_turns : Reader PlainHeading
read_turns line = do
  rest ← read_literal (codes "order ") line
  as_read turns_heading (read_counts rest)

-- the heading of a file
unfoldable pub read_file : Reader PlainHeading
read_file line = do
  rest ← read_literal (codes "file ") line
  as_read file_heading (read_file_name rest)

-- readings, where the numbers are small enough
abbrev pub readings_of : List ℕ → List ℕ → Reading PlainHeading
readings_of numbers rest =
    if list_all (λ number. nat_le number greatest_reading) numbers then Ok (readings_heading numbers, rest) else Err (length rest)

-- the heading of readings
unfoldable pub read_readings : Reader PlainHeading
read_readings line = do
  rest ← read_literal (codes "clock ") line
  numbers ← read_counts rest
  readings_of numbers.0 numbers.1

-- the end
unfoldable pub read_end : Reader PlainHeading
read_end line = do
  rest ← read_literal (codes "end") line
  Ok (end_heading, rest)

-- u
abbrev pub small_u : ℕ
small_u = 117

-- o
abbrev pub small_o : ℕ
small_o = 111

-- f
abbrev pub small_f : ℕ
small_f = 102

-- c
abbrev pub small_c : ℕ
small_c = 99

-- the heading of a file or of readings, by the letter with which its word begins, or the end
unfoldable pub read_later_heading : Reader PlainHeading
read_later_heading line =
    if begins_with small_f line then read_file line
    else if begins_with small_c line then read_readings line
    else read_end line

-- a heading, by the letter with which its word begins
unfoldable pub read_heading : Reader PlainHeading
read_heading line =
    if begins_with small_u line then read_user line
    else if begins_with small_o line then read_turns line
    else read_later_heading line
