use Rattle.std.specs.Prelude.{ℕ, Bool, List}
use Rattle.std.specs.List.{join_with_byte}
use Rattle.apl_arrays.specs.Glyph.{blank, is_between}

-- a printable glyph of ASCII
abbrev pub is_plain : ℕ → Bool
is_plain code = is_between 32 126 code

-- texts with one blank between each two
abbrev pub spaced : List (List ℕ) → List ℕ
spaced texts = join_with_byte blank texts
