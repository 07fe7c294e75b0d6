use Rattle.std.specs.Prelude.{◌≡◌, ◌-◌, ◌<◌, ◌==◌, ℕ, List, Option, Some, length, slice_index, slice_set, if◌then◌else◌}
use Rattle.apl_arrays.specs.declared.items.Item.{Item}
use Rattle.apl_arrays.specs.Array.{PlainArray, IsArray, IsItemOf, element_count}
use Rattle.apl_items.specs.Axis.{without}
use Rattle.apl_items.specs.Shapes.{place_of}
use Rattle.apl_selection.specs.Indexing.{named_place}
use Rattle.apl_selection.specs.Subscripts.{named_counts, sub_on}

-- the subscripts that are not omitted are arrays
abbrev pub AreArrays : List (Option PlainArray) → Type 0
AreArrays subs = (axis : ℕ) (sub : PlainArray) → sub_on subs axis ≡ Some sub → IsArray sub

-- no place is named twice
abbrev pub NamesOnce : List ℕ → List (Option PlainArray) → Type 0
NamesOnce shape subs =
    (here there place : ℕ) → here < element_count (named_counts shape subs) → there < element_count (named_counts shape subs)
    → named_place shape subs here ≡ Some place → named_place shape subs there ≡ Some place → here ≡ there

-- the item of a part of a join at these coordinates of the join, or without the one along the axis where the part lacks the axis;
-- a scalar's item stands at all
abbrev pub IsItemOfPart : PlainArray → ℕ → ℕ → List ℕ → Item → Type 0
IsItemOfPart part rank axis at item = IsItemOf part.items (place_of part.shape (if length part.shape == rank then at else without axis at)) item

-- coordinates so many places back along an axis
abbrev pub places_back : ℕ → ℕ → List ℕ → List ℕ
places_back axis count at = slice_set at axis (slice_index at axis - count)
