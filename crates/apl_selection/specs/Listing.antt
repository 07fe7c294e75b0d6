use Rattle.std.specs.Prelude.{◌==◌, ℕ, ℤ, Bool, List, [], ◌∷◌, Option, Some, None, length, slice_index, slice_index_or, slice_set, is_some, nat_lt, if◌then◌else◌}
use Rattle.apl_arrays.specs.declared.way.Way.{Way}
use Rattle.apl_arrays.specs.Array.{PlainArray, PlainItems}
use Rattle.apl_arrays.specs.Shape.{shape_fault}
use Rattle.apl_items.specs.Along.{source_along}
use Rattle.apl_items.specs.Answers.{ArrayResult, Faults, answer_of}
use Rattle.apl_items.specs.Moves.{moved}
use Rattle.apl_items.specs.Shapes.{split_at}
use Rattle.apl_items.specs.Axis.{axis_of}

-- ---- an array whose scalars are vectors of one item, and its axis

-- the array is a scalar
abbrev pub is_scalar : PlainArray → Bool
is_scalar b = length b.shape == 0

-- the axes, where a scalar is a vector of one item
abbrev pub vector_shape : List ℕ → List ℕ
vector_shape shape = if length shape == 0 then 1 ∷ [] else shape

-- the axis that is meant: the one that K names, else the last or the first
abbrev pub meant_axis : PlainArray → Way → Option ℤ → ℕ
meant_axis b way axis = axis_of (length (vector_shape b.shape)) way axis

-- how long it is
abbrev pub meant_length : PlainArray → Way → Option ℤ → ℕ
meant_length b way axis = slice_index (vector_shape b.shape) (meant_axis b way axis)

-- ---- items of listed places

-- the shape with as many places along an axis as are listed
abbrev pub listed_shape : List ℕ → ℕ → List (Option ℕ) → List ℕ
listed_shape shape axis list = slice_set shape axis (length list)

-- the array whose items along an axis are those of the listed places, and the fill where none is listed
abbrev pub listed : List ℕ → PlainItems → ℕ → List (Option ℕ) → PlainArray
listed shape items axis list =
    let result = listed_shape shape axis list in
    moved result items (source_along (split_at result axis) (slice_index shape axis) (λ line along. slice_index_or list along None))

-- a place on an axis that is so long, and none past its end
abbrev pub on_axis : ℕ → Option ℕ → Option ℕ
on_axis long None = None
on_axis long (Some place) = if nat_lt place long then Some place else None

-- the items of B at the listed places along an axis, where nothing else is wrong and they are not too many
abbrev pub listed_of : Faults → PlainArray → ℕ → List (Option ℕ) → ArrayResult
listed_of faults b axis list =
    let shape = vector_shape b.shape in
    answer_of (record faults { too_large = is_some (shape_fault (listed_shape shape axis list)) }) (listed shape b.items axis list)
