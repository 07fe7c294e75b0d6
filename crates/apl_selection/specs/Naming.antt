use Rattle.std.specs.Prelude.{◌≡◌, ◌+◌, ◌*◌, ◌<◌, ◌≤◌, ◌^◌, ℕ, true, false, List, Option, Some, None, length, drop, option_map, replicate, slice_index, slice_index_or}
use Rattle.apl_arrays.specs.Array.{PlainArray, element_count, item_count}
use Rattle.apl_items.specs.Axes.{offset_at}
use Rattle.apl_items.specs.Extension.{is_single}
use Rattle.apl_items.specs.Shapes.{AreWithin, stride_of}
use Rattle.apl_selection.specs.Assignment.{last_place}
use Rattle.apl_selection.specs.Subscripts.{named_counts, named_on}

-- ---- how places of a selection are told, by strides that are given

-- a place by a stride, if there is one
abbrev pub scaled_place : ℕ → Option ℕ → Option ℕ
scaled_place stride place = option_map (λ at. at * stride) place

-- the last place at which a subscript names a place along its axis, by these strides
abbrev pub naming_by : List ℕ → List (Option PlainArray) → List ℕ → ℕ → ℕ → Option ℕ
naming_by shape subs strides axis along = scaled_place (slice_index strides axis) (last_place along (named_on shape subs axis))

-- the strides of a selection that has as many places as V has elements, or zeros where V has one element
pub record AreStridesFor (a : PlainArray) (subs : List (Option PlainArray)) (v : PlainArray) (strides : List ℕ) : Type 0 where
  pub lone : is_single v ≡ true → strides ≡ replicate (length a.shape) 0
  pub count : is_single v ≡ false → element_count (named_counts a.shape subs) ≡ item_count v.items
  pub each : is_single v ≡ false → (axis : ℕ) → axis < length a.shape → slice_index strides axis ≡ stride_of (named_counts a.shape subs) axis

-- the places that are told, from each axis on, are of 32 bits
abbrev pub PlacesAreSmall : List ℕ → (ℕ → ℕ → Option ℕ) → Type 0
PlacesAreSmall shape offset = (axis : ℕ) (coordinates : List ℕ) (from : ℕ) → axis ≤ length shape → AreWithin (drop axis shape) coordinates → offset_at offset axis coordinates ≡ Some from → from < 2 ^ 32

-- a place together with each of others is of 32 bits
abbrev pub IsSmallBeyond : Option ℕ → List (Option ℕ) → Type 0
IsSmallBeyond first after = (k a b : ℕ) → k < length after → first ≡ Some a → slice_index_or after k None ≡ Some b → a + b < 2 ^ 32

-- each of some places together with each of others is of 32 bits
abbrev pub AreSmallTogether : List (Option ℕ) → List (Option ℕ) → Type 0
AreSmallTogether here after = (k : ℕ) → k < length here → IsSmallBeyond (slice_index_or here k None) after
