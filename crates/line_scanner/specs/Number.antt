-- Numbers at the front of a line, computed.
use Rattle.std.specs.Prelude.{◌+◌, ◌-◌, ◌==◌, ℕ, zero, suc, ℤ, pos, neg_ℤ, Bool, true, false, List, [], ◌∷◌, Option, Some, None, length, drop, take_while, if◌then◌else◌}
use Rattle.std.specs.List.{prefix_len}
use Rattle.std.specs.Str.Parse.{digits_value}
use Rattle.apl_arrays.specs.Glyph.{is_blank, is_digit}
use Rattle.apl_arrays.specs.Number.{fits}
use Rattle.line_scanner.specs.Role.{is_overbar}

-- a magnitude with its sign
abbrev pub signed : Bool → ℕ → ℤ
signed true magnitude = neg_ℤ (pos magnitude)
signed false magnitude = pos magnitude

-- the number, where it fits 64 bits
abbrev pub in_64 : ℤ → Option ℤ
in_64 n = if fits n then Some n else None

-- what was found, and so many glyphs before it
abbrev pub found_after : {A : Type 0} → ℕ → Option (A × ℕ) → Option (A × ℕ)
found_after before None = None
found_after before (Some found) = Some (found.0, before + found.1)

-- a value of so many glyphs
abbrev pub of_glyphs : ℕ → Option ℤ → Option (ℤ × ℕ)
of_glyphs taken None = None
of_glyphs taken (Some value) = Some (value, taken)

-- the number of these digits with its sign, and how many they are
abbrev pub signed_number : Bool → List ℕ → Option (ℤ × ℕ)
signed_number negative digits = if length digits == 0 then None else of_glyphs (length digits) (in_64 (signed negative (digits_value 10 digits)))

-- the number at the front, and how many glyphs it takes
unfoldable pub number : List ℕ → Option (ℤ × ℕ)
number [] = None
number (first ∷ rest) = if is_overbar first then found_after 1 (signed_number true (take_while is_digit rest)) else signed_number false (take_while is_digit (first ∷ rest))

-- the number that comes next behind blanks, and how many glyphs these and it take
unfoldable pub next_number : List ℕ → Option (ℤ × ℕ)
next_number line = found_after (prefix_len is_blank line) (number (drop (prefix_len is_blank line) line))

-- a number, and those that follow it
abbrev pub number_with_more : ℤ × ℕ → List ℤ × ℕ → List ℤ × ℕ
number_with_more found more = (found.0 ∷ more.0, found.1 + more.1)

-- what comes after a number, if one comes, when some of the next glyphs are passed over
abbrev pub numbers_then : Option (ℤ × ℕ) → (ℕ → List ℤ × ℕ) → List ℤ × ℕ
numbers_then None beyond = ([], 0)
numbers_then (Some found) beyond = number_with_more found (beyond (found.1 - 1))

-- the numbers that come after so many glyphs with only blanks between, and how many glyphs they take
unfoldable pub next_numbers : ℕ → List ℕ → List ℤ × ℕ
next_numbers passed [] = ([], 0)
next_numbers (suc passed) (glyph ∷ rest) = next_numbers passed rest
next_numbers zero (glyph ∷ rest) = numbers_then (next_number (glyph ∷ rest)) (λ passed. next_numbers passed rest)

-- a first number of a line, and those that follow it
abbrev pub constant_then : Option (ℤ × ℕ) → List ℕ → Option (List ℤ × ℕ)
constant_then None line = None
constant_then (Some found) line = Some (number_with_more found (next_numbers found.1 line))

-- the constant of numbers at the front, and how many glyphs it takes
abbrev pub constant : List ℕ → Option (List ℤ × ℕ)
constant line = constant_then (number line) line
