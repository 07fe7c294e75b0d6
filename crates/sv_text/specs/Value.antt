-- What an array in a journal may be.
use Rattle.std.specs.Prelude.{Option, Some, None}
use Rattle.apl_arrays.specs.Array.{PlainArray, IsArray}
use Rattle.sv_text.specs.Printable.{ArePrintableItems}

-- an array within the limits, of numbers of 64 bits or of glyphs
pub record IsValue (value : PlainArray) : Type 0 where
  pub array : IsArray value
  pub items : ArePrintableItems value.items

-- such an array, or none
abbrev pub IsValueOrNone : Option PlainArray → Type 0
IsValueOrNone None = Unit {0}
IsValueOrNone (Some array) = IsValue array
