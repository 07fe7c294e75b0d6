use Rattle.std.specs.Prelude.{◌+◌, ◌-◌, ◌*◌, ◌/◌, ◌%◌, ℕ, List, Option, Some, Ok, length, reverse}
use Rattle.apl_arrays.specs.Array.{PlainArray}
use Rattle.apl_items.specs.Answers.{ArrayResult}
use Rattle.apl_items.specs.Axes.{source_by_axes}
use Rattle.apl_items.specs.Moves.{moved}
use Rattle.apl_items.specs.Shapes.{stride_of}

-- the offset of a place along an axis of a transpose: in the argument that axis is as far from the last as here from the first
abbrev pub opposite_offset : List ℕ → ℕ → ℕ → Option ℕ
opposite_offset shape axis along = Some (along * stride_of shape (length shape - 1 - axis))

-- the place in a matrix of so many rows and columns from which a place of its transpose comes
abbrev pub turned_place : ℕ → ℕ → ℕ → Option ℕ
turned_place rows columns place = Some (place % rows * columns + place / rows)

-- the axes in reverse order
abbrev pub transposed : PlainArray → PlainArray
transposed b = moved (reverse b.shape) b.items (source_by_axes (reverse b.shape) (opposite_offset b.shape))

-- B with its axes in reverse order
abbrev pub transpose_of : PlainArray → ArrayResult
transpose_of b = Ok (transposed b)
