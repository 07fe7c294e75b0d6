use Rattle.std.specs.Prelude.{◌-◌, ◌||◌, ◌==◌, ℕ, ℤ, Bool, false, not, List, [], ◌∷◌, Option, Some, None, length, map, slice_index, slice_index_or, nat_lt, unsigned_abs}
use Rattle.std.specs.Int.{is_negative}
use Rattle.std.specs.List.{flat_map, list_any}
use Rattle.apl_arrays.specs.Array.{PlainArray, is_chars, numbers_in}
use Rattle.apl_items.specs.Answers.{Faults, no_faults}
use Rattle.apl_items.specs.Places.{places}

-- the subscript of an axis, if it is not omitted
abbrev pub sub_on : List (Option PlainArray) → ℕ → Option PlainArray
sub_on subs axis = slice_index_or subs axis None

-- ---- what is selected

-- the axes that a subscript gives to the selection: its array's, or where it is omitted the one axis as it is
abbrev pub axes_by : ℕ → Option PlainArray → List ℕ
axes_by length None = length ∷ []
axes_by length (Some sub) = sub.shape

-- the shape of the selection: what each subscript gives to it, the first one's axes first
abbrev pub selection_shape : List ℕ → List (Option PlainArray) → List ℕ
selection_shape shape subs = flat_map (λ axis. axes_by (slice_index shape axis) (sub_on subs axis)) (places (length shape))

-- the places along its axis, from 0, that a subscript names, in its order; an omitted one names them all
abbrev pub named_by : ℕ → Option PlainArray → List ℕ
named_by length None = places length
named_by length (Some sub) = map (λ number. unsigned_abs number - 1) (numbers_in sub.items)

-- the places along an axis that its subscript names
abbrev pub named_on : List ℕ → List (Option PlainArray) → ℕ → List ℕ
named_on shape subs axis = named_by (slice_index shape axis) (sub_on subs axis)

-- how many places are named along each axis: as many items, in the same order, as the selection has
abbrev pub named_counts : List ℕ → List (Option PlainArray) → List ℕ
named_counts shape subs = map (λ axis. length (named_on shape subs axis)) (places (length shape))

-- ---- what is wrong with subscripts

-- a number is not from 1 to the length of an axis
abbrev pub is_outside : ℕ → ℤ → Bool
is_outside length number = is_negative number || unsigned_abs number == 0 || nat_lt length (unsigned_abs number)

-- a number of a subscript is outside its axis
abbrev pub points_outside : ℕ → Option PlainArray → Bool
points_outside length None = false
points_outside length (Some sub) = list_any (is_outside length) (numbers_in sub.items)

-- a subscript is of characters
abbrev pub is_of_chars : Option PlainArray → Bool
is_of_chars None = false
is_of_chars (Some sub) = is_chars sub.items

-- there are not as many subscripts as axes, or no axes
abbrev pub is_miscounted : List ℕ → List (Option PlainArray) → Bool
is_miscounted shape subs = length shape == 0 || not (length subs == length shape)

-- some subscript is outside its axis
abbrev pub point_outside : List ℕ → List (Option PlainArray) → Bool
point_outside shape subs = list_any (λ axis. points_outside (slice_index shape axis) (sub_on subs axis)) (places (length shape))

-- what is wrong with subscripts of an array of this shape: there is one for each axis, of numbers on the axis; a scalar has none
abbrev pub subscript_faults : List ℕ → List (Option PlainArray) → Faults
subscript_faults shape subs = record no_faults {
  bad_rank = is_miscounted shape subs;
  bad_domain = list_any is_of_chars subs;
  bad_index = point_outside shape subs;
}
