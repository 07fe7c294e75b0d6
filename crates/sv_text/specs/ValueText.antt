use Rattle.std.specs.Prelude.{ℕ, List, [], ◌∷◌, ◌++◌, ◌==◌, map, codes, decimal, Option, Some, None, if◌then◌else◌}
use Rattle.std.specs.List.{flat_map}
use Rattle.apl_arrays.specs.Glyph.{quote}
use Rattle.apl_arrays.specs.Array.{PlainItems, numbers, chars, PlainArray}
use Rattle.line_text.specs.Number.{number_text}
use Rattle.line_text.specs.Spaced.{spaced}

-- a character between quotes: a quote is written twice
abbrev pub char_text : ℕ → List ℕ
char_text glyph = if glyph == quote then quote ∷ quote ∷ [] else glyph ∷ []

-- the letter of the kind
abbrev pub kind_text : PlainItems → List ℕ
kind_text (numbers _) = codes "N"
kind_text (chars _) = codes "C"

-- the items in a journal line: numbers set apart by single blanks, characters between quotes
abbrev pub items_text : PlainItems → List ℕ
items_text (numbers list) = spaced (map number_text list)
items_text (chars list) = quote ∷ (flat_map char_text list ++ quote ∷ [])

-- an array: its kind, its axes in parentheses, its items
abbrev pub array_text : PlainArray → List ℕ
array_text array =
    kind_text array.items
    ++ (codes "(" ++ (spaced (map decimal array.shape) ++ (codes ")" ++ items_text array.items)))

-- a value, or `none` where there is none
abbrev pub value_text : Option PlainArray → List ℕ
value_text None = codes "none"
value_text (Some array) = array_text array
