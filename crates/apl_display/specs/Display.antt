use Rattle.std.specs.Prelude.{◌==◌, ℕ, nat_lt, List, [], ◌∷◌, length, map, if◌then◌else◌}
use Rattle.apl_arrays.specs.Array.{PlainArray, PlainItems, numbers, chars, item_count}
use Rattle.line_text.specs.Spaced.{spaced}
use Rattle.apl_display.specs.Matrices.{extent_of, matrices_lines}
use Rattle.line_text.specs.Number.{number_text}

-- the items of a vector in one line: numbers are set apart by single blanks, characters stand side by side
abbrev pub item_line : PlainItems → List ℕ
item_line (numbers list) = spaced (map number_text list)
item_line (chars list) = list

-- the lines of an array: one of a scalar or a vector, none without elements at a higher rank, else those of its matrices
abbrev pub display_lines : PlainArray → List (List ℕ)
display_lines array =
    if nat_lt (length array.shape) 2 then item_line array.items ∷ []
    else (if item_count array.items == 0 then [] else matrices_lines array.items (extent_of array.shape))
