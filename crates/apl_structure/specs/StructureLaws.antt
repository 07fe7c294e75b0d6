use Rattle.std.specs.Prelude.{◌≡◌, ◌+◌, ◌-◌, ◌++◌, ◌<◌, ℕ, ℤ, true, false, pos, neg_ℤ, List, length, map, take, drop, replicate, slice_index, unsigned_abs}
use Rattle.std.specs.Int.{is_negative}
use Rattle.apl_arrays.specs.declared.items.Item.{Item}
use Rattle.apl_arrays.specs.declared.items.Item.TheVariants.{Number, Char}
use Rattle.apl_arrays.specs.Array.{PlainArray, PlainItems, numbers, chars, number_array, numbers_in}
use Rattle.apl_arrays.specs.Glyph.{blank}
use Rattle.apl_structure.specs.Taking.{number_for}

-- ---- items of a vector

-- the first items, so many, and behind them the fill as often as there are too few
abbrev pub first_items : ℕ → PlainItems → PlainItems
first_items count (numbers list) = numbers (take count list ++ replicate (count - length list) (pos 0))
first_items count (chars list) = chars (take count list ++ replicate (count - length list) blank)

-- the last items, so many, and before them the fill as often as there are too few
abbrev pub last_items : ℕ → PlainItems → PlainItems
last_items count (numbers list) = numbers (replicate (count - length list) (pos 0) ++ drop (length list - count) list)
last_items count (chars list) = chars (replicate (count - length list) blank ++ drop (length list - count) list)

-- the items without the first, so many
abbrev pub items_after : ℕ → PlainItems → PlainItems
items_after count (numbers list) = numbers (drop count list)
items_after count (chars list) = chars (drop count list)

-- the items without the last, so many
abbrev pub items_before : ℕ → PlainItems → PlainItems
items_before count (numbers list) = numbers (take (length list - count) list)
items_before count (chars list) = chars (take (length list - count) list)

-- the item that fills
abbrev pub fill_of : PlainItems → Item
fill_of (numbers _) = Number (pos 0)
fill_of (chars _) = Char blank

-- ---- coordinates of B and of its take or drop

-- a place of B and one of its take are as far from the start of their axes, or where the number is negative from the end
pub record IsTakenTo (number : ℤ) (long from to : ℕ) : Type 0 where
  pub start : is_negative number ≡ false → to ≡ from
  pub end : is_negative number ≡ true → to + long ≡ from + unsigned_abs number

-- so are those of each axis
abbrev pub AreTakenTo : PlainArray → List ℕ → List ℕ → List ℕ → Type 0
AreTakenTo a shape from to = (axis : ℕ) → axis < length shape → IsTakenTo (number_for a axis) (slice_index shape axis) (slice_index from axis) (slice_index to axis)

-- a place of B is as far on as the number says from one of its drop, or where the number is negative at the same place
pub record IsLeftAt (number : ℤ) (from to : ℕ) : Type 0 where
  pub start : is_negative number ≡ false → from ≡ to + unsigned_abs number
  pub end : is_negative number ≡ true → from ≡ to

-- so are those of each axis
abbrev pub AreLeftAt : PlainArray → List ℕ → List ℕ → List ℕ → Type 0
AreLeftAt a shape from to = (axis : ℕ) → axis < length shape → IsLeftAt (number_for a axis) (slice_index from axis) (slice_index to axis)

-- ---- turns

-- the array of the opposite numbers
abbrev pub opposite : PlainArray → PlainArray
opposite a = number_array a.shape (map neg_ℤ (numbers_in a.items))
