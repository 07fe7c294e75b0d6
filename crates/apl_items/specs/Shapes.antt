use Rattle.std.specs.Prelude.{◌+◌, ◌*◌, ◌/◌, ◌%◌, ◌<◌, ⊤, ℕ, List, [], ◌∷◌, take, drop, slice_index}
use Rattle.apl_arrays.specs.Array.{element_count}
use Rattle.apl_items.specs.declared.shapes.Split.{Split}

-- ---- places of a shape in row-major order

-- the place of coordinates: each counts as many places as an array of the axes after it has elements
abbrev pub place_of : List ℕ → List ℕ → ℕ
place_of [] coordinates = 0
place_of (axis ∷ shape) [] = 0
place_of (axis ∷ shape) (first ∷ coordinates) = first * element_count shape + place_of shape coordinates

-- the coordinates of a place
abbrev pub coordinates_of : List ℕ → ℕ → List ℕ
coordinates_of [] place = []
coordinates_of (axis ∷ shape) place = place / element_count shape ∷ coordinates_of shape (place % element_count shape)

-- as many coordinates as axes, each below the length of its axis
abbrev pub AreWithin : List ℕ → List ℕ → Type 0
AreWithin [] [] = ⊤
AreWithin [] (first ∷ coordinates) = ⊥
AreWithin (axis ∷ shape) [] = ⊥
AreWithin (axis ∷ shape) (first ∷ coordinates) = (first < axis) × AreWithin shape coordinates

-- how far apart two neighbours along an axis stand
abbrev pub stride_of : List ℕ → ℕ → ℕ
stride_of shape axis = element_count (drop (axis + 1) shape)

-- ---- a shape seen from one of its axes

-- how many rows stand before an axis, how long it is, and how many items each of its places has
abbrev pub split_at : List ℕ → ℕ → Split
split_at shape axis = record { outer = element_count (take axis shape); along = slice_index shape axis; inner = stride_of shape axis }

-- how many places there are
abbrev pub split_count : Split → ℕ
split_count split = split.outer * split.along * split.inner

-- the place of a row, of a place along the axis, and of an item there
abbrev pub place_along : Split → ℕ → ℕ → ℕ → ℕ
place_along split outer along inner = (outer * split.along + along) * split.inner + inner

-- the row of a place
abbrev pub outer_of : Split → ℕ → ℕ
outer_of split place = place / split.inner / split.along

-- where along the axis a place is
abbrev pub along_of : Split → ℕ → ℕ
along_of split place = place / split.inner % split.along

-- which item of its place along the axis a place is
abbrev pub inner_of : Split → ℕ → ℕ
inner_of split place = place % split.inner
