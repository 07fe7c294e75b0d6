use Rattle.std.specs.Prelude.{◌≡◌, ◌<◌, ◌++◌, ◌^◌, ℕ, List, encode_utf8}
use Rattle.apl_arrays.specs.Glyph.{IsBadFrom}
use Rattle.apl_arrays.specs.declared.text.GlyphRefused.{GlyphRefused}
use Rattle.apl_arrays.specs.declared.text.GlyphRefused.TheVariants.{BadGlyph, WantOfMemory}

-- a true reason not to read the bytes: no glyph stands where it says; memory may run out at any bytes
abbrev pub IsReasonToRefuse : List ℕ → GlyphRefused → Type 0
IsReasonToRefuse bytes (BadGlyph offset) = IsBadFrom bytes offset
IsReasonToRefuse bytes WantOfMemory = Unit {0}

-- no scalar of 16 bits stands at the front in UTF-8
abbrev pub StartsWithNoScalar : List ℕ → Type 0
StartsWithNoScalar bytes = (scalar : ℕ) (rest : List ℕ) → scalar < 2 ^ 16 → ¬ (bytes ≡ encode_utf8 scalar ++ rest)
