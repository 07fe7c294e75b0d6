-- Reading a number of a range.
use Rattle.std.specs.Prelude.{◌+◌, ◌*◌, ◌/◌, ◌==◌, ◌&&◌, ◌||◌, ◌∷◌, [], ℕ, zero, suc, Bool, false, List, Option, Some, None, Ok, Err, length, max, nat_le, if◌then◌else◌}
use Rattle.apl_arrays.specs.Glyph.{digit_value}
use Rattle.text_reader.specs.Reading.{Reader, Reading}

-- no number of 64 bits has more decimal digits
abbrev pub most_digits : ℕ
most_digits = 20

-- a number of the range, of at most so many digits, begins with the digits of a value: the value is in the range, or a
-- number of the range without its last digit begins so
abbrev pub reaches : ℕ → ℕ → ℕ → ℕ → Bool
reaches zero value low high = false
reaches (suc digits) value low high =
    nat_le value high && (nat_le low value || reaches digits value (max low 10 / 10) (high / 10))

-- the value with a digit more, where a number of the range begins so
abbrev pub with_digit : ℕ → ℕ → ℕ → Option ℕ → Option ℕ
with_digit low high value None = None
with_digit low high value (Some digit) =
    if reaches most_digits (value * 10 + digit) low high then Some (value * 10 + digit) else None

-- a number that ends here is no less than the least
abbrev pub number_ends : ℕ → ℕ → Reader ℕ
number_ends low value line = if nat_le low value then Ok (value, line) else Err (length line)

-- the digits go on with a value, or end
abbrev pub reading_on : Option ℕ → (ℕ → Reading ℕ) → Reading ℕ → Reading ℕ
reading_on None next ended = ended
reading_on (Some value) next ended = next value

-- what stands behind digits of this value
abbrev pub read_digits : ℕ → ℕ → ℕ → Reader ℕ
read_digits low high value [] = number_ends low value []
read_digits low high value (first ∷ rest) =
    reading_on (with_digit low high value (digit_value first)) (λ longer. read_digits low high longer rest) (number_ends low value (first ∷ rest))

-- a number behind its first digit: no number but 0 begins with 0
abbrev pub read_number_behind : ℕ → ℕ → Option ℕ → List ℕ → ℕ → Reading ℕ
read_number_behind low high None rest left = Err left
read_number_behind low high (Some zero) rest left = if low == 0 then Ok (0, rest) else Err left
read_number_behind low high (Some (suc before)) rest left =
    if reaches most_digits (suc before) low high then read_digits low high (suc before) rest else Err left

-- a number of the range
abbrev pub read_number : ℕ → ℕ → Reader ℕ
read_number low high [] = Err 0
read_number low high (first ∷ rest) = read_number_behind low high (digit_value first) rest (length (first ∷ rest))
