use Rattle.std.specs.Prelude.{◌≡◌, ◌<◌, ℕ, pos, List, Option, Some, None, map, slice_index_or}
use Rattle.apl_arrays.specs.Array.{PlainArray, PlainItems, numbers, chars, element_count}
use Rattle.apl_arrays.specs.Glyph.{blank}
use Rattle.apl_items.specs.Places.{places}

-- the item at a source place, or the fill where there is none
abbrev pub item_or : {T : Type 0} → T → List T → Option ℕ → T
item_or fill list None = fill
item_or fill list (Some source) = slice_index_or list source fill

-- a list of items that moved: at each of so many places the item at its source place, or the fill
abbrev pub moved_list : {T : Type 0} → T → List T → ℕ → (ℕ → Option ℕ) → List T
moved_list fill list count source = map (λ place. item_or fill list (source place)) (places count)

-- items of either kind that moved; the fill is 0 for numbers, and the blank for characters
abbrev pub moved_items : PlainItems → ℕ → (ℕ → Option ℕ) → PlainItems
moved_items (numbers list) count source = numbers (moved_list (pos 0) list count source)
moved_items (chars list) count source = chars (moved_list blank list count source)

-- the array of a shape whose item at a place is the one at its source place, or the fill where it has none
abbrev pub moved : List ℕ → PlainItems → (ℕ → Option ℕ) → PlainArray
moved shape items source = record { shape = shape; items = moved_items items (element_count shape) source }

-- the source places for so many places stand in a list of so many items
abbrev pub IsWithin : (ℕ → Option ℕ) → ℕ → ℕ → Type 0
IsWithin source count size = (place from : ℕ) → place < count → source place ≡ Some from → from < size
