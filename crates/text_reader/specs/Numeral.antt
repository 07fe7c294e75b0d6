-- Reading a number of any length, by its digits.
use Rattle.std.specs.Prelude.{ℕ, ◌+◌, ◌-◌, ◌*◌, ◌^◌, ◌==◌, ◌&&◌, Bool, false, not, min, List, [], ◌∷◌, Option, Some, None, Ok, Err, length, take, drop, if◌then◌else◌}
use Rattle.std.specs.List.{list_all, prefix_len}
use Rattle.apl_arrays.specs.Glyph.{is_digit, digit}
use Rattle.text_reader.specs.Reading.{Reader, Reading}

-- one or more digits, and no zero in front of others
abbrev pub is_numeral : List ℕ → Bool
is_numeral [] = false
is_numeral (only ∷ []) = is_digit only
is_numeral (first ∷ next ∷ rest) = not (first == digit 0) && list_all is_digit (first ∷ next ∷ rest)

-- the number of digits that stand behind those of another number
abbrev pub value_from : ℕ → List ℕ → ℕ
value_from number [] = number
value_from number (first ∷ rest) = value_from (number * 10 + (first - digit 0)) rest

-- the number of digits
abbrev pub number_of_digits : List ℕ → ℕ
number_of_digits digits = value_from 0 digits

-- a number as it is kept: one of more than 64 bits is the greatest of 64
abbrev pub capped : ℕ → ℕ
capped number = min number (2 ^ 64 - 1)

-- the number of a word, where it is one
abbrev pub numeral : List ℕ → Option ℕ
numeral word = if is_numeral word then Some (capped (number_of_digits word)) else None

-- how many digits stand at the front
abbrev pub digit_span : List ℕ → ℕ
digit_span line = prefix_len is_digit line

-- a number, where there is one, and what follows it
abbrev pub read_counted : Option ℕ → List ℕ → ℕ → Reading ℕ
read_counted None rest left = Err left
read_counted (Some number) rest left = Ok (number, rest)

-- the number of all digits that stand at the front
abbrev pub read_count : Reader ℕ
read_count line = read_counted (numeral (take (digit_span line) line)) (drop (digit_span line) line) (length line)
