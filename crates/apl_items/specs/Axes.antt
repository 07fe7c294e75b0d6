use Rattle.std.specs.Prelude.{◌+◌, ◌<◌, ◌≤◌, ℕ, List, [], ◌∷◌, Option, Some, None, length, slice_index}
use Rattle.apl_items.specs.Shapes.{coordinates_of}

-- two offsets together, where both are there
abbrev pub added : Option ℕ → Option ℕ → Option ℕ
added (Some a) (Some b) = Some (a + b)
added (Some a) None = None
added None offset = None

-- the offsets along all axes from one on, together, at these coordinates; none where one of them is none
abbrev pub offset_at : (ℕ → ℕ → Option ℕ) → ℕ → List ℕ → Option ℕ
offset_at offset axis [] = Some 0
offset_at offset axis (first ∷ coordinates) = added (offset axis first) (offset_at offset (axis + 1) coordinates)

-- the source place for a place of a result of this shape: the offsets along all its axes together
abbrev pub source_by_axes : List ℕ → (ℕ → ℕ → Option ℕ) → ℕ → Option ℕ
source_by_axes shape offset place = offset_at offset 0 (coordinates_of shape place)

-- the axes of a shape, from one on, are no longer than these
abbrev pub AreNoLonger : List ℕ → ℕ → (ℕ → ℕ) → Type 0
AreNoLonger shape axis lengths = (k : ℕ) → k < length shape → slice_index shape k ≤ lengths (axis + k)
