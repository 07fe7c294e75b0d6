-- Reading numbers, characters, shapes, arrays and values.
use Rattle.std.specs.Prelude.{◌+◌, ◌-◌, ◌*◌, ◌/◌, ◌^◌, ◌==◌, ◌&&◌, not, ◌∷◌, ◌++◌, [], ℕ, ℤ, pos, neg_ℤ, zero, suc, Bool, true, false, List, Option, Some, None, Ok, Err, length, min, codes, nat_le, nat_lt, if◌then◌else◌}
use Rattle.apl_arrays.specs.Array.{PlainArray, number_array, char_array, element_count}
use Rattle.apl_arrays.specs.Glyph.{blank, overbar, quote, right_parenthesis}
use Rattle.apl_arrays.specs.Limits.{most_axes, most_elements}
use Rattle.apl_arrays.specs.List.{others_of}
use Rattle.text_reader.specs.Reading.{Reader, Reading, ◌>>=◌, always, as_read, begins_with, read_list, read_literal, read_behind}
use Rattle.text_reader.specs.NumberReading.{read_number}

-- the magnitude of a negative number
abbrev pub read_negative : Reader ℤ
read_negative line = as_read (λ magnitude. neg_ℤ (pos magnitude)) (read_number 1 (2 ^ 63) line)

-- a number that is not negative
abbrev pub read_positive : Reader ℤ
read_positive line = as_read pos (read_number 0 (2 ^ 63 - 1) line)

-- a number of 64 bits, behind ¯ where it is negative
abbrev pub read_integer : Reader ℤ
read_integer line = if begins_with overbar line then read_negative (others_of line) else read_positive line

-- a number behind a blank
unfoldable pub read_next_integer : Reader ℤ
read_next_integer line = do
  rest ← read_literal (codes " ") line
  read_integer rest

-- so many numbers with one blank between each two
unfoldable pub read_numbers : ℕ → Reader (List ℤ)
read_numbers zero line = Ok ([], line)
read_numbers (suc count) line = do
  first ← read_integer line
  read_behind (first.0 ∷ []) (read_list always read_next_integer count first.1)

-- what stands behind a character: a second quote where it is one
abbrev pub behind_char : ℕ → Reader ℕ
behind_char char line =
    if char == quote then (read_literal (codes "'") line >>= λ rest. Ok (char, rest)) else Ok (char, line)

-- a character as it stands between quotes
unfoldable pub read_char : Reader ℕ
read_char [] = Err 0
read_char (first ∷ rest) = behind_char first rest

-- so many characters between quotes
unfoldable pub read_quoted : ℕ → Reader (List ℕ)
read_quoted count line = do
  opened ← read_literal (codes "'") line
  chars ← read_list always read_char count opened
  closed ← read_literal (codes "'") chars.1
  Ok (chars.0, closed)

-- a product, or one more than the most elements where it is greater
abbrev pub capped_product : ℕ → ℕ
capped_product product = min product (most_elements + 1)

-- the greatest axis that may come next: the last may not take the product of all past its limit
abbrev pub greatest_axis : Bool → ℕ → ℕ
greatest_axis last product = if last && nat_lt 0 product then most_elements / product else most_elements

-- whether an axis follows, behind a blank, else the shape is closed here; each only where it may
abbrev pub goes_on_behind : Bool → Bool → Reader Bool
goes_on_behind closes more [] = Err 0
goes_on_behind closes more (first ∷ rest) =
    if first == right_parenthesis && closes then Ok (false, rest)
    else if first == blank && more then Ok (true, rest)
    else Err (length (first ∷ rest))

-- more axes, where one follows
abbrev pub more_axes : Bool × List ℕ → Reader (List ℕ) → Reading (List ℕ)
more_axes found axes = if found.0 then axes found.1 else Ok ([], found.1)

-- at least one axis and at most so many, behind others of this product, up to where the shape is closed
unfoldable pub read_axes : ℕ → ℕ → Reader (List ℕ)
read_axes zero product line = Err (length line)
read_axes (suc more) product line = do
  axis ← read_number 0 (greatest_axis (suc more == 1) product) line
  follows ← goes_on_behind (nat_le (capped_product (product * axis.0)) most_elements) (nat_lt 1 (suc more)) axis.1
  others ← more_axes follows (read_axes more (capped_product (product * axis.0)))
  Ok (axis.0 ∷ others.0, others.1)

-- a shape, and the parenthesis that closes it
unfoldable pub read_shape : Reader (List ℕ)
read_shape line =
    if begins_with right_parenthesis line then Ok ([], others_of line)
    else read_axes most_axes 1 line

-- the axes and the numbers of an array
unfoldable pub read_numbers_array : Reader PlainArray
read_numbers_array line = do
  opened ← read_literal (codes "N(") line
  shape ← read_shape opened
  numbers ← read_numbers (element_count shape.0) shape.1
  Ok (number_array shape.0 numbers.0, numbers.1)

-- the axes and the characters of an array
unfoldable pub read_chars_array : Reader PlainArray
read_chars_array line = do
  opened ← read_literal (codes "C(") line
  shape ← read_shape opened
  chars ← read_quoted (element_count shape.0) shape.1
  Ok (char_array shape.0 chars.0, chars.1)

-- N
abbrev pub letter_n : ℕ
letter_n = 78

-- C
abbrev pub letter_c : ℕ
letter_c = 67

-- n
abbrev pub small_n : ℕ
small_n = 110

-- an array: N and numbers, or C and characters
unfoldable pub read_array : Reader PlainArray
read_array line =
    if begins_with letter_n line then read_numbers_array line
    else if begins_with letter_c line then read_chars_array line
    else Err (length line)

-- a value: `none`, or an array
unfoldable pub read_value : Reader (Option PlainArray)
read_value line =
    if begins_with small_n line then (do
      rest ← read_literal (codes "none") line
      Ok (None, rest))
    else as_read Some (read_array line)
