use Rattle.std.specs.Prelude.{◌<◌, ◌&&◌, ◌||◌, ◌==◌, ℕ, ℤ, pos, Bool, not, List, nat_lt, length, slice_index, slice_index_or, if◌then◌else◌}
use Rattle.std.specs.Cmp.Lexicographic.{pointwise}
use Rattle.apl_arrays.specs.declared.items.Item.{Item}
use Rattle.apl_arrays.specs.declared.items.Item.TheVariants.{Number, Char}
use Rattle.apl_arrays.specs.Array.{PlainArray, PlainItems, numbers, chars, item_count}

-- the array has one element, of whatever rank
abbrev pub is_single : PlainArray → Bool
is_single array = item_count array.items == 1

-- neither array extends
abbrev pub are_whole : PlainArray → PlainArray → Bool
are_whole a b = not (is_single a) && not (is_single b)

-- the ranks differ where neither extends
abbrev pub ranks_differ : PlainArray → PlainArray → Bool
ranks_differ a b = are_whole a b && not (length a.shape == length b.shape)

-- the shapes differ where neither extends
abbrev pub shapes_differ : PlainArray → PlainArray → Bool
shapes_differ a b = are_whole a b && not (pointwise ◌==◌ a.shape b.shape)

-- the array whose shape the result has: the one that does not extend; of two that do, the one of greater rank
abbrev pub leader : PlainArray → PlainArray → PlainArray
leader a b = if is_single a && (not (is_single b) || nat_lt (length a.shape) (length b.shape)) then b else a

-- a lone item stands at every place
abbrev pub place_in : ℕ → ℕ → ℕ
place_in count place = if count == 1 then 0 else place

-- a list of so many items has one for each place: it has one item alone, or no fewer than places
abbrev pub Reaches : ℕ → ℕ → Type 0
Reaches items count = (place : ℕ) → place < count → place_in items place < items

-- the number for a place of the result
abbrev pub number_at : List ℤ → ℕ → ℤ
number_at list place = slice_index_or list (place_in (length list) place) (pos 0)

-- the character for a place of the result
abbrev pub char_at : List ℕ → ℕ → ℕ
char_at list place = slice_index list (place_in (length list) place)

-- the item for a place of the result
abbrev pub item_at : PlainItems → ℕ → Item
item_at (numbers list) place = Number (number_at list place)
item_at (chars list) place = Char (char_at list place)
