-- What the text of a value tells apart: numbers of 64 bits, and arrays of glyphs.
use Rattle.std.specs.Prelude.{◌<◌, ◌^◌, All, FitsSigned}
use Rattle.std.specs.Int.{w64}
use Rattle.apl_arrays.specs.Array.{PlainItems, numbers, chars, PlainArray}
use Rattle.apl_arrays.specs.Glyph.{IsGlyph}

-- numbers of 64 bits, or glyphs
abbrev pub ArePrintableItems : PlainItems → Type 0
ArePrintableItems (numbers list) = All (λ number. FitsSigned w64 number) list
ArePrintableItems (chars list) = All IsGlyph list

-- an array of such items, and its axes
pub record IsPrintableArray (array : PlainArray) : Type 0 where
  pub axes : All (λ axis. axis < 2 ^ 64) array.shape
  pub items : ArePrintableItems array.items
