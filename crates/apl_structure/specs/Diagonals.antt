use Rattle.std.specs.Prelude.{◌+◌, ◌-◌, ◌||◌, ◌==◌, ℕ, ℤ, Bool, not, List, [], ◌∷◌, Some, length, map, max, min, slice_index, nat_lt, unsigned_abs, if◌then◌else◌}
use Rattle.std.specs.List.{list_any}
use Rattle.apl_arrays.specs.Array.{PlainArray, is_chars, item_count, numbers_in}
use Rattle.apl_arrays.specs.Limits.{most_elements}
use Rattle.apl_items.specs.Answers.{ArrayResult, Faults, no_faults, answer_of}
use Rattle.apl_items.specs.Moves.{moved}
use Rattle.apl_items.specs.Places.{places}
use Rattle.apl_items.specs.Shapes.{coordinates_of, place_of}
use Rattle.apl_items.specs.Axis.{lacks_axis}

-- ---- the axes that B's axes become, from 0; where several become one, its places are those of a diagonal

-- the axes that numbers name
abbrev pub axes_named : List ℤ → List ℕ
axes_named numbers = map (λ number. unsigned_abs number - 1) numbers

-- how many axes the result has: one more than the greatest
abbrev pub axis_count : List ℕ → ℕ
axis_count [] = 0
axis_count (axis ∷ axes) = max (axis + 1) (axis_count axes)

-- some axis of the result is none of B's
abbrev pub leaves_gap : List ℕ → Bool
leaves_gap axes = list_any (λ axis. not (list_any (λ named. named == axis) axes)) (places (axis_count axes))

-- the least length of the axes of B that become an axis; no axis is longer than 16,384
abbrev pub least_length : List ℕ → List ℕ → ℕ → ℕ
least_length [] shape axis = most_elements
least_length (named ∷ axes) [] axis = most_elements
least_length (named ∷ axes) (long ∷ shape) axis = if named == axis then min long (least_length axes shape axis) else least_length axes shape axis

-- the shape of the result
abbrev pub diagonal_shape : List ℕ → List ℕ → List ℕ
diagonal_shape axes shape = map (least_length axes shape) (places (axis_count axes))

-- how far apart neighbours along an axis of the result stand in B: as far as along all axes that become it together
abbrev pub step_along : List ℕ → List ℕ → ℕ → ℕ
step_along [] strides axis = 0
step_along (named ∷ axes) [] axis = 0
step_along (named ∷ axes) (stride ∷ strides) axis = if named == axis then stride + step_along axes strides axis else step_along axes strides axis

-- the coordinates in B of an item of the result: along each axis of B that along the axis which it becomes
abbrev pub coordinates_by : List ℕ → List ℕ → List ℕ
coordinates_by axes coordinates = map (λ axis. slice_index coordinates axis) axes

-- B with its axes in these places
abbrev pub transposed_by : List ℕ → PlainArray → PlainArray
transposed_by axes b =
    let shape = diagonal_shape axes b.shape in
    moved shape b.items (λ place. Some (place_of b.shape (coordinates_by axes (coordinates_of shape place))))

-- what is wrong with A: it has a number for each axis of B, and they name the axes of the result, without a gap
abbrev pub axes_by_faults : PlainArray → PlainArray → Faults
axes_by_faults a b =
    let numbers = numbers_in a.items in record no_faults {
      bad_rank = nat_lt 1 (length a.shape);
      bad_length = not (item_count a.items == length b.shape);
      bad_domain = is_chars a.items || list_any (λ number. lacks_axis (length b.shape) (Some number)) numbers || leaves_gap (axes_named numbers);
    }

-- B with its axes where A puts them; the result has no more elements than B
abbrev pub transpose_by_of : PlainArray → PlainArray → ArrayResult
transpose_by_of a b = answer_of (axes_by_faults a b) (transposed_by (axes_named (numbers_in a.items)) b)
