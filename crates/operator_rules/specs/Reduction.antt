use Rattle.std.specs.Prelude.{◌≡◌, ◌+◌, ℕ, ℤ, zero, suc, pos, List, Option, Some, None, option_map, slice_index, slice_index_or}
use Rattle.apl_arrays.specs.declared.items.Item.{Item}
use Rattle.apl_arrays.specs.declared.items.Item.TheVariants.{Number, Char}
use Rattle.apl_verbs.specs.declared.verb.Dyad.{Dyad}
use Rattle.apl_arrays.specs.Array.{PlainItems, numbers, chars}
use Rattle.apl_items.specs.declared.shapes.Split.{Split}
use Rattle.apl_items.specs.Shapes.{place_along}
use Rattle.apl_scalar.specs.Table.{pair_item, row_of_dyad}

-- ---- of items of any type

-- two items joined, where both are there
abbrev pub joined : {T : Type 0} → (T → T → Option T) → Option T → Option T → Option T
joined join (Some a) (Some b) = join a b
joined join (Some a) None = None
joined join None b = None

-- the reduction of an item and of so many after it: the item joined with what those after it give
abbrev pub reduction : {T : Type 0} → (T → T → Option T) → (ℕ → Option T) → ℕ → ℕ → Option T
reduction join item from zero = item from
reduction join item from (suc more) = joined join (item from) (reduction join item (from + 1) more)

-- the reduction of so many items: the identity where there are none, and one item unchanged
abbrev pub reduction_of : {T : Type 0} → (T → T → Option T) → Option T → (ℕ → Option T) → ℕ → Option T
reduction_of join identity item zero = identity
reduction_of join identity item (suc more) = reduction join item 0 more

-- ---- of the items of arrays

-- the item that a dyadic function gives at two items
abbrev pub joined_by : Dyad → Item → Item → Option Item
joined_by f a b = option_map Number (pair_item f a b)

-- the identity as an item, if there is one
abbrev pub identity_item : Dyad → Option Item
identity_item f = option_map Number (row_of_dyad f).identity

-- the item at a place
abbrev pub item_in : PlainItems → ℕ → Item
item_in (numbers list) place = Number (slice_index_or list place (pos 0))
item_in (chars list) place = Char (slice_index list place)

-- ---- of numbers on the lines of a list

-- the number on a line along an axis
abbrev pub number_on : List ℤ → Split → ℕ → ℕ → ℕ → Option ℤ
number_on list split outer inner along = Some (slice_index_or list (place_along split outer along inner) (pos 0))

-- the reduction of the numbers on a line, from the first up to one
abbrev pub front_of_line : (ℤ → ℤ → Option ℤ) → List ℤ → Split → ℕ → ℕ → ℕ → Option ℤ
front_of_line join list split outer inner along = reduction join (number_on list split outer inner) 0 along

-- ---- of what calls answer

-- whatever a call answers at two items is what a definition gives there
abbrev pub Joins : {T : Type 0} → (T → T → Option T → Type 0) → (T → T → Option T) → Type 0
Joins {T} answers join = (a b : T) (answer : Option T) → answers a b answer → answer ≡ join a b

-- whatever a call answers of a value is what a definition gives of it
abbrev pub Tells : {A B : Type 0} → (A → B → Type 0) → (A → B) → Type 0
Tells {A} {B} answers rule = (value : A) (answer : B) → answers value answer → answer ≡ rule value
