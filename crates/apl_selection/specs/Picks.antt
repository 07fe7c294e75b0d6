use Rattle.std.specs.Prelude.{◌≡◌, ◌*◌, ◌<◌, ℕ, List, Option, Some, length, option_map, slice_index}
use Rattle.apl_arrays.specs.Array.{PlainArray, PlainItems}
use Rattle.apl_items.specs.Axes.{source_by_axes}
use Rattle.apl_items.specs.Moves.{moved}
use Rattle.apl_items.specs.Shapes.{stride_of}

-- the offset in a source for a place along an axis, where a rule tells the place along the source's axis, or none
abbrev pub strided : List ℕ → (ℕ → ℕ → Option ℕ) → ℕ → ℕ → Option ℕ
strided source from axis along = option_map (λ place. place * stride_of source axis) (from axis along)

-- the array of a shape whose items are picked from a source along each axis by itself, or filled
abbrev pub picked : List ℕ → List ℕ → PlainItems → (ℕ → ℕ → Option ℕ) → PlainArray
picked shape source items from = moved shape items (source_by_axes shape (strided source from))

-- the places that a rule picks for a shape are on the axes of the source
abbrev pub PicksWithin : (ℕ → ℕ → Option ℕ) → List ℕ → List ℕ → Type 0
PicksWithin from shape source = (axis along place : ℕ) → axis < length shape → along < slice_index shape axis → from axis along ≡ Some place → place < slice_index source axis
