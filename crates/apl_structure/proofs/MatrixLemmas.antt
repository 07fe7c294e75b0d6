-- A matrix with its axes in reverse order, item by item down its columns.
use Rattle.std.proofs.Common.{◌≡◌, ℕ, ◌+◌, ◌*◌, ◌/◌, ◌%◌, ◌<◌, List, [], ◌∷◌, ◌++◌, Some, length, reverse, get_or, sym, ap, ◌∙◌, arith, div-one}
use Rattle.std.proofs.lemmas.List.{get_or_default}
use Rattle.std.proofs.lemmas.Nat.{div-mul-add, mod-mul-add}
use Rattle.apl_arrays.specs.Array.{PlainArray, PlainItems, element_count}
use Rattle.apl_items.specs.Axes.{source_by_axes}
use Rattle.apl_items.specs.Moves.{moved_items, moved_list}
use Rattle.apl_items.proofs.MoveLemmas.{moved_list_more}
use Rattle.apl_items.proofs.ShapeLemmas.{element_count-cons}
use Rattle.apl_selection.proofs.MoveLemmas.{array_of, same_moved}
use Rattle.apl_structure.specs.Transposition.{opposite_offset, transposed, turned_place}

-- ---- one item more

turned_at : (rows columns column row : ℕ) → row < rows → turned_place rows columns (column * rows + row) ≡ Some (row * columns + column)
turned_at rows columns column row below =
    ap (λ (m : ℕ). Some (m * columns + (column * rows + row) / rows)) (mod-mul-add column rows row below)
    ∙ ap (λ (m : ℕ). Some (row * columns + m)) (div-mul-add column rows row below)

pub one_turned_more : {T : Type 0} (fill : T) (list : List T) (rows columns column row : ℕ) (value : T) (before : List T) → row < rows → row * columns + column < length list
    → value ≡ get_or list (row * columns + column) value → before ≡ moved_list fill list (column * rows + row) (turned_place rows columns)
    → before ++ value ∷ [] ≡ moved_list fill list (column * rows + (row + 1)) (turned_place rows columns)
one_turned_more {T} fill list rows columns column row value before below inside is so_far =
    let place : ℕ = column * rows + row in
    let same : column * rows + row + 0 ≡ column * rows + row = omega arith in
    let next : column * rows + row + 1 ≡ column * rows + (row + 1) = omega arith in
    moved_list_more fill list (turned_place rows columns) place before (Some (row * columns + column)) value so_far
    (sym (ap (turned_place rows columns) same ∙ turned_at rows columns column row below)) (is ∙ get_or_default list (row * columns + column) value fill inside)
    ∙ ap (λ (n : ℕ). moved_list fill list n (turned_place rows columns)) next

-- ---- the source of a transpose of a matrix

pub matrix_source : (rows columns place : ℕ) → source_by_axes (columns ∷ rows ∷ []) (opposite_offset (rows ∷ columns ∷ [])) place ≡ turned_place rows columns place
matrix_source rows columns place =
    let one_row : element_count (rows ∷ []) ≡ rows = omega arith in
    let one_column : element_count (columns ∷ []) ≡ columns = omega arith in
    ap (λ (m : ℕ). Some (place / m * 1 + (place % m / 1 * element_count (columns ∷ []) + 0))) one_row
    ∙ ap (λ (m : ℕ). Some (place / rows * 1 + (place % rows / 1 * m + 0))) one_column
    ∙ ap (λ (m : ℕ). Some (place / rows * 1 + (m * columns + 0))) (div-one (place % rows))
    ∙ ap (λ (m : ℕ). Some m) (sums (place / rows) (place % rows * columns))
  where
    sums : (a b : ℕ) → a * 1 + (b + 0) ≡ b + a
    sums a b = omega arith

-- the transpose of a shape and items
abbrev turned_of : List ℕ → PlainItems → PlainArray
turned_of shape items = array_of (reverse shape) (moved_items items (element_count (reverse shape)) (source_by_axes (reverse shape) (opposite_offset shape)))

matrix_by : (shape : List ℕ) (items : PlainItems) → length shape ≡ 2 → array_of (reverse shape) (moved_items items (get_or (reverse shape) 0 0 * get_or (reverse shape) 1 0) (turned_place (get_or (reverse shape) 1 0) (get_or (reverse shape) 0 0)))
    ≡ turned_of shape items
matrix_by [] items two = absurd (omega arith)
matrix_by (r ∷ []) items two = absurd (omega arith)
matrix_by (r ∷ c ∷ k ∷ ks) items two = absurd (omega arith)
matrix_by (r ∷ c ∷ []) items two =
    let one : element_count (r ∷ []) ≡ r = omega arith in
    let count : element_count (c ∷ r ∷ []) ≡ c * r = element_count-cons c (r ∷ []) ∙ ap (λ (n : ℕ). c * n) one in
    ap (λ (n : ℕ). array_of (c ∷ r ∷ []) (moved_items items n (turned_place r c))) (sym count)
    ∙ ap (array_of (c ∷ r ∷ [])) (same_moved items (element_count (c ∷ r ∷ [])) (turned_place r c) (source_by_axes (c ∷ r ∷ []) (opposite_offset (r ∷ c ∷ []))) (λ place h. sym (matrix_source r c place)))

pub matrix_is : (b : PlainArray) (shape : List ℕ) (items made : PlainItems) (rows columns : ℕ) → shape ≡ reverse b.shape → items ≡ b.items → length b.shape ≡ 2 → columns ≡ get_or shape 0 0 → rows ≡ get_or shape 1 0
    → made ≡ moved_items items (columns * rows) (turned_place rows columns) → array_of shape made ≡ transposed b
matrix_is b shape items made rows columns s i two c r is =
    rw (is, r, c, s, i) (matrix_by b.shape b.items two)

count_by : (shape : List ℕ) → length shape ≡ 2 → element_count (reverse shape) ≡ get_or (reverse shape) 0 0 * get_or (reverse shape) 1 0
count_by [] two = absurd (omega arith)
count_by (r ∷ []) two = absurd (omega arith)
count_by (r ∷ c ∷ k ∷ ks) two = absurd (omega arith)
count_by (r ∷ c ∷ []) two = let one : element_count (r ∷ []) ≡ r = omega arith in element_count-cons c (r ∷ []) ∙ ap (λ (n : ℕ). c * n) one

-- as many items as places
pub matrix_count : (b : PlainArray) (shape : List ℕ) (rows columns : ℕ) → shape ≡ reverse b.shape → length b.shape ≡ 2 → columns ≡ get_or shape 0 0 → rows ≡ get_or shape 1 0 → element_count shape ≡ columns * rows
matrix_count b shape rows columns s two c r = rw (r, c, s) (count_by b.shape two)
