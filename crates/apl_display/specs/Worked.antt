-- Numbers and texts of the worked lines.
use Rattle.std.specs.Prelude.{◌-◌, ℕ, ℤ, negsuc, List, ◌∷◌}
use Rattle.apl_arrays.specs.Glyph.{overbar}

-- a negative number
abbrev pub below_zero : ℕ → ℤ
below_zero n = negsuc (n - 1)

-- the sign ¯ in front of a text
abbrev pub with_overbar : List ℕ → List ℕ
with_overbar text = overbar ∷ text
