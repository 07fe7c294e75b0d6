use Rattle.std.specs.Prelude.{ℕ, ℤ, pos, negsuc, unsigned_abs, List, [], ◌∷◌, ◌++◌, decimal, length}
use Rattle.apl_arrays.specs.Glyph.{overbar}

-- the sign of a number: ¯ where it is negative
abbrev pub sign_of : ℤ → List ℕ
sign_of (pos n) = []
sign_of (negsuc n) = overbar ∷ []

-- the text of a number: its sign and its decimal digits
abbrev pub number_text : ℤ → List ℕ
number_text n = sign_of n ++ decimal (unsigned_abs n)

-- how many glyphs the text of a number has
abbrev pub number_width : ℤ → ℕ
number_width n = length (number_text n)
