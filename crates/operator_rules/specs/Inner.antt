use Rattle.std.specs.Prelude.{◌+◌, ◌*◌, ◌-◌, ◌/◌, ◌%◌, ◌==◌, ◌&&◌, ◌++◌, ℕ, ℤ, Bool, not, List, Option, drop, length, slice_index_or, take, if◌then◌else◌}
use Rattle.apl_verbs.specs.declared.verb.Dyad.{Dyad}
use Rattle.apl_arrays.specs.Array.{PlainArray, PlainItems, element_count}
use Rattle.apl_items.specs.Answers.{ArrayResult, answer_of}
use Rattle.apl_items.specs.Extension.{are_whole, is_single, item_at}
use Rattle.apl_items.specs.Places.{number_faults, numbers_by}
use Rattle.apl_scalar.specs.Table.{dyadic_item, pair_item, row_of_dyad}
use Rattle.operator_rules.specs.Reduction.{reduction_of}

-- a shape without its last axis
abbrev pub front : List ℕ → List ℕ
front shape = take (length shape - 1) shape

-- the length of the last axis, 1 where there is no axis
abbrev pub last_length : List ℕ → ℕ
last_length shape = slice_index_or shape (length shape - 1) 1

-- the length of the first axis, 1 where there is no axis
abbrev pub first_length : List ℕ → ℕ
first_length shape = slice_index_or shape 0 1

-- neither array extends, and the two axes whose items would be paired are not equally long
abbrev pub ends_differ : PlainArray → PlainArray → Bool
ends_differ a b = are_whole a b && not (last_length a.shape == first_length b.shape)

-- how many items are paired: an array of one element takes the length of the other
abbrev pub paired : PlainArray → PlainArray → ℕ
paired a b = if is_single a then first_length b.shape else last_length a.shape

-- the item of g at a pair: of a row of A with a column of B, where an array of one element extends
abbrev pub pair_at : Dyad → PlainItems → PlainItems → ℕ → ℕ → ℕ → ℕ → Option ℤ
pair_at g a b count columns place along =
    pair_item g (item_at a (place / columns * count + along)) (item_at b (along * columns + place % columns))

-- the item at a place: the reduction by f of all pairs of its row and its column
abbrev pub inner_at : Dyad → Dyad → PlainItems → PlainItems → ℕ → ℕ → ℕ → Option ℤ
inner_at f g a b count columns place = reduction_of (dyadic_item f) (row_of_dyad f).identity (pair_at g a b count columns place) count

-- each row of A with each column of B; the shape is that of A without its last axis, then that of B without its first
abbrev pub inner_product_of : Dyad → Dyad → PlainArray → PlainArray → ArrayResult
inner_product_of f g a b =
    let shape = front a.shape ++ drop 1 b.shape in
    let rule = inner_at f g a.items b.items (paired a b) (element_count (drop 1 b.shape)) in
    answer_of (record (number_faults shape rule) { bad_length = ends_differ a b }) (numbers_by shape rule)
