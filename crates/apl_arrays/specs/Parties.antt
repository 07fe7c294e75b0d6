use Rattle.std.specs.Prelude.{ℕ, Bool}
use Rattle.apl_arrays.specs.Glyph.{is_between}

-- the lowest number of a user
abbrev pub first_user : ℕ
first_user = 1001

-- the highest number of a user
abbrev pub last_user : ℕ
last_user = 1999

-- whether a party of this number is a user
abbrev pub is_user_number : ℕ → Bool
is_user_number number = is_between first_user last_user number
