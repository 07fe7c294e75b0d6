use Rattle.std.specs.Prelude.{◌≡◌, ◌≤◌, ◌==◌, ℕ, ℤ, Bool, true, false, List, [], ◌∷◌, All, Some, length, slice_get}
use Rattle.std.specs.Bool.{beq}
use Rattle.std.specs.Ordering.{on, eq_of_both, int_eq}
use Rattle.std.specs.Cmp.Lexicographic.{pointwise}
use Rattle.apl_arrays.specs.declared.items.Items.{Items}
use Rattle.apl_arrays.specs.declared.items.Items.TheVariants.{Numbers, Chars}
use Rattle.apl_arrays.specs.declared.items.ItemsRef.{ItemsRef}
use Rattle.apl_arrays.specs.declared.items.ItemsRef.TheVariants as seen
use Rattle.apl_arrays.specs.declared.items.Item.{Item}
use Rattle.apl_arrays.specs.declared.items.Item.TheVariants.{Number, Char}
use Rattle.apl_arrays.specs.Limits.{most_axes, most_elements}
use Rattle.apl_arrays.specs.Number.{product}

-- the items of an array without the room of their list: numbers or characters
pub data PlainItems : Type 0 where
  numbers : List ℤ → PlainItems
  chars : List ℕ → PlainItems

-- an array as plain data: its shape, and its items in row-major order
pub record PlainArray : Type 0 where
  pub shape : List ℕ
  pub items : PlainItems

-- the items, whatever room is left in their list
abbrev pub plain_items : Items → PlainItems
plain_items (Numbers list) = numbers list.items
plain_items (Chars list) = chars list.items

-- the items that are looked at
abbrev pub seen_items : ItemsRef → PlainItems
seen_items (seen.Numbers list) = numbers list.now
seen_items (seen.Chars list) = chars list.now

-- whether the kind is characters
abbrev pub is_chars : PlainItems → Bool
is_chars (numbers _) = false
is_chars (chars _) = true

-- the numbers; none where the kind is characters
abbrev pub numbers_in : PlainItems → List ℤ
numbers_in (numbers list) = list
numbers_in (chars _) = []

-- the characters; none where the kind is numbers
abbrev pub chars_in : PlainItems → List ℕ
chars_in (numbers _) = []
chars_in (chars list) = list

-- the same kind and the same items
abbrev pub same_items : PlainItems → PlainItems → Bool
same_items = eq_of_both (on is_chars beq) (eq_of_both (on numbers_in (pointwise int_eq)) (on chars_in (pointwise ◌==◌)))

-- how many items there are
abbrev pub item_count : PlainItems → ℕ
item_count (numbers list) = length list
item_count (chars list) = length list

-- how many elements an array of this shape has
abbrev pub element_count : List ℕ → ℕ
element_count shape = product shape

-- a shape within the limits: eight axes at the most, and no axis and no product over 16,384
pub record FitsLimits (shape : List ℕ) : Type 0 where
  pub rank : length shape ≤ most_axes
  pub axes : All (λ axis. axis ≤ most_elements) shape
  pub elements : element_count shape ≤ most_elements

-- a shape within the limits, and as many items as it asks for
pub record IsArray (array : PlainArray) : Type 0 where
  pub fits : FitsLimits array.shape
  pub whole : element_count array.shape ≡ item_count array.items

-- an array of numbers
abbrev pub number_array : List ℕ → List ℤ → PlainArray
number_array shape list = record { shape = shape; items = numbers list }

-- an array of characters
abbrev pub char_array : List ℕ → List ℕ → PlainArray
char_array shape list = record { shape = shape; items = chars list }

-- the scalar of a number
abbrev pub scalar : ℤ → PlainArray
scalar n = record { shape = []; items = numbers (n ∷ []) }

-- the item is the one at a place
abbrev pub IsItemOf : PlainItems → ℕ → Item → Type 0
IsItemOf (numbers list) at (Number n) = slice_get list at ≡ Some n
IsItemOf (chars list) at (Char glyph) = slice_get list at ≡ Some glyph
IsItemOf (numbers list) at (Char glyph) = ⊥
IsItemOf (chars list) at (Number n) = ⊥

-- the same shape, kind and items
abbrev pub same_array : PlainArray → PlainArray → Bool
same_array = eq_of_both (on (λ array. array.shape) (pointwise ◌==◌)) (on (λ array. array.items) same_items)
