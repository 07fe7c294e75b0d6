-- Saved variables: a shape and the items.
use Rattle.std.specs.Prelude.{◌+◌, ◌*◌, ◌∷◌, [], ℕ, ℤ, List, Ok, is_none, length, nat_le}
use Rattle.apl_arrays.specs.Array.{PlainArray, char_array, element_count, number_array}
use Rattle.apl_arrays.specs.Limits.{most_axes}
use Rattle.apl_arrays.specs.Shape.{is_small, shape_fault}
use Rattle.apl_workspace.specs.Limits.{most_weight}
use Rattle.ws_codec.specs.Fields.{read_byte, read_glyphs, read_integer, read_number}
use Rattle.ws_codec.specs.Reading.{Reader, ◌>>=◌, read_more, keeps, repeated}
use Rattle.ws_codec.specs.declared.saved.SavedRule.TheVariants.{Limit, Short, Size}

-- an axis
unfoldable pub read_axis : Reader ℕ
read_axis rest = do
  axis ← read_number 4 rest
  small ← keeps (is_small axis.0) Size (length rest)
  Ok axis

-- an axis behind others
abbrev pub read_next_axis : List ℕ → Reader (List ℕ)
read_next_axis axes rest = read_more axes (read_axis rest)

-- how many bytes are left at the last field of a shape: at its last axis, or at its rank where it has none
abbrev pub at_last_axis : List ℕ → ℕ → ℕ
at_last_axis [] left = left + 1
at_last_axis (axis ∷ axes) left = left + 4

-- the shape of a variable behind objects of this weight: its rank and its axes
unfoldable pub read_shape : ℕ → Reader (List ℕ)
read_shape weight rest = do
  rank ← read_byte rest
  few ← keeps (nat_le rank.0 most_axes) Size (length rest)
  axes ← repeated read_next_axis rank.0 [] rank.1
  small ← keeps (is_none (shape_fault axes.0)) Size (at_last_axis axes.0 (length axes.1))
  light ← keeps (nat_le (weight + (1 + element_count axes.0)) most_weight) Limit (at_last_axis axes.0 (length axes.1))
  Ok axes

-- a number behind others
abbrev pub read_next_integer : List ℤ → Reader (List ℤ)
read_next_integer numbers rest = read_more numbers (read_integer rest)

-- so many numbers, which are one field
unfoldable pub read_numbers : ℕ → Reader (List ℤ)
read_numbers count rest = do
  whole ← keeps (nat_le (8 * count) (length rest)) Short 0
  repeated read_next_integer count [] rest

-- a variable of numbers
unfoldable pub read_number_array : ℕ → Reader PlainArray
read_number_array weight rest = do
  shape ← read_shape weight rest
  numbers ← read_numbers (element_count shape.0) shape.1
  Ok (number_array shape.0 numbers.0, numbers.1)

-- a variable of characters
unfoldable pub read_char_array : ℕ → Reader PlainArray
read_char_array weight rest = do
  shape ← read_shape weight rest
  chars ← read_glyphs (element_count shape.0) shape.1
  Ok (char_array shape.0 chars.0, chars.1)
