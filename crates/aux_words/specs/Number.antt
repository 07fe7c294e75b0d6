-- Numbers that a request may name: 1 to 999,999,999, in decimal digits without a leading zero.
use Rattle.std.specs.Prelude.{◌+◌, ◌*◌, ◌==◌, ℕ, List, [], ◌∷◌, Option, Some, None, nat_le, if◌then◌else◌}
use Rattle.apl_arrays.specs.Glyph.{digit, digit_value}

-- the greatest of them
abbrev pub greatest_number : ℕ
greatest_number = 999999999

-- a number with a digit more, where that is not too great
abbrev pub with_digit : ℕ → Option ℕ → Option ℕ
with_digit number None = None
with_digit number (Some value) = if nat_le (number * 10 + value) greatest_number then Some (number * 10 + value) else None

-- what comes of a number, where there is one
abbrev pub if_number : Option ℕ → (ℕ → Option ℕ) → Option ℕ
if_number None next = None
if_number (Some number) next = next number

-- the number that begins with the digits of another and goes on with these
abbrev pub number_behind : ℕ → List ℕ → Option ℕ
number_behind number [] = Some number
number_behind number (glyph ∷ line) = if_number (with_digit number (digit_value glyph)) (λ longer. number_behind longer line)

-- the number that these glyphs are
abbrev pub number_of : List ℕ → Option ℕ
number_of [] = None
number_of (glyph ∷ line) = if glyph == digit 0 then None else number_behind 0 (glyph ∷ line)
