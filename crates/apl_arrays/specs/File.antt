use Rattle.std.specs.Prelude.{◌&&◌, ◌||◌, ◌==◌, ◌-◌, ℕ, Bool, false, not, List, [], ◌∷◌, IsTrue, nat_le, length}
use Rattle.std.specs.List.{list_all}
use Rattle.apl_arrays.specs.Glyph.{is_between, is_digit, underscore, period, minus}
use Rattle.apl_arrays.specs.Limits.{most_file_name_bytes}

-- A to Z, a to z, 0 to 9, _, . or -
abbrev pub is_file_byte : ℕ → Bool
is_file_byte byte = is_between 65 90 byte || is_between 97 122 byte || is_digit byte || byte == underscore || byte == period || byte == minus

-- 1 to 32 of these, and no dot in front
abbrev pub is_file_name : List ℕ → Bool
is_file_name [] = false
is_file_name (first ∷ rest) = not (first == period) && nat_le (length rest) (most_file_name_bytes - 1) && list_all is_file_byte (first ∷ rest)

-- this text is the name of a file
abbrev pub IsFileName : List ℕ → Type 0
IsFileName text = IsTrue (is_file_name text)
