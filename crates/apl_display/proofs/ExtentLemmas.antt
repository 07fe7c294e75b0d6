-- The matrices of a shape: how many items they have.
use Rattle.std.proofs.Common.{◌≡◌, ℕ, ◌+◌, ◌-◌, ◌*◌, ◌/◌, ◌<◌, ◌≤◌, List, length, get_or, take, sym, ap, ◌∙◌, ⊎_elim, arith}
use Rattle.std.proofs.Math.Nat.{mul_assoc, mul_comm, le-mul_of_pos_right}
use Rattle.std.proofs.lemmas.Bool.{cases_lt}
use Rattle.std.proofs.lemmas.List.{take_all}
use Rattle.std.proofs.lemmas.List.Sums.{fold_more}
use Rattle.std.proofs.lemmas.Nat.{div-mul-add}
use Rattle.apl_arrays.specs.Array.{element_count}
use Rattle.apl_display.specs.declared.matrices.Extent.{Extent}
use Rattle.apl_display.specs.Matrices.{extent_of, row_count}

-- one axis more
pub axis_more : (shape : List ℕ) (i : ℕ) → i < length shape → element_count (take (i + 1) shape) ≡ element_count (take i shape) * get_or shape i 0
axis_more shape i within = fold_more ◌*◌ 1 shape i 0 within

-- the last two axes, and those before them
pub whole_extent : (shape : List ℕ) → 2 ≤ length shape → row_count (extent_of shape) * (extent_of shape).columns ≡ element_count shape
whole_extent shape long =
    let i : ℕ = length shape - 2 in
    let last : i + 1 ≡ length shape - 1 = omega arith in
    let all : take (i + 1 + 1) shape ≡ shape = take_all (i + 1 + 1) shape (omega arith) in
    sym (ap element_count (sym all)
    ∙ (axis_more shape (i + 1) (omega arith)
    ∙ (ap (λ n. n * get_or shape (i + 1) 0) (axis_more shape i (omega arith))
    ∙ ap (λ k. element_count (take i shape) * get_or shape i 0 * get_or shape k 0) last)))

-- a product that isn't 0 has no factor 0
pub positive_right : (a b : ℕ) → 0 < a * b → 0 < b
positive_right a b some =
    ⊎_elim (λ positive. positive)
    (λ none. let zero : b ≡ 0 = omega arith in let gone : a * b ≡ a * 0 = ap (λ n. a * n) zero in absurd (omega arith))
    (cases_lt 0 b)

pub positive_left : (a b : ℕ) → 0 < a * b → 0 < a
positive_left a b some = positive_right b a (omega (arith, mul_comm a b))

-- the extent whose matrices are counted by a division
abbrev pub divided : ℕ → ℕ → ℕ → Extent
divided elements rows columns = record { matrices = elements / (rows * columns); rows = rows; columns = columns }

abbrev pub divided_extent : List ℕ → ℕ → Extent
divided_extent shape elements = divided elements (extent_of shape).rows (extent_of shape).columns

pub matrix_has_items : (shape : List ℕ) (elements : ℕ) → 2 ≤ length shape → element_count shape ≡ elements → 0 < elements → 0 < (extent_of shape).rows * (extent_of shape).columns
matrix_has_items shape elements long whole some =
    let e = extent_of shape in
    let split : e.matrices * e.rows * e.columns ≡ elements = whole_extent shape long ∙ whole in
    positive_right e.matrices (e.rows * e.columns) (omega (arith, mul_assoc e.matrices e.rows e.columns))

pub extent_by_division : (shape : List ℕ) (elements : ℕ) → 2 ≤ length shape → element_count shape ≡ elements → 0 < elements → divided_extent shape elements ≡ extent_of shape
extent_by_division shape elements long whole some =
    let e = extent_of shape in
    let split : elements ≡ e.matrices * (e.rows * e.columns) + 0 = omega (arith, whole_extent shape long ∙ whole, mul_assoc e.matrices e.rows e.columns) in
    ap (λ n. divided n e.rows e.columns) split
    ∙ ap (λ (m : ℕ). let made : Extent = record { matrices = m; rows = e.rows; columns = e.columns } in made) (div-mul-add e.matrices (e.rows * e.columns) 0 (matrix_has_items shape elements long whole some))

pub divided_whole : (shape : List ℕ) (elements : ℕ) → 2 ≤ length shape → element_count shape ≡ elements → 0 < elements → row_count (divided_extent shape elements) * (extent_of shape).columns ≡ elements
divided_whole shape elements long whole some =
    ap (λ (e : Extent). row_count e * e.columns) (extent_by_division shape elements long whole some) ∙ (whole_extent shape long ∙ whole)

pub divided_counted : (shape : List ℕ) (elements : ℕ) → 2 ≤ length shape → element_count shape ≡ elements → 0 < elements → row_count (divided_extent shape elements) ≤ elements
divided_counted shape elements long whole some =
    let rows : ℕ = row_count (divided_extent shape elements) in
    let split : rows * (extent_of shape).columns ≡ elements = divided_whole shape elements long whole some in
    omega (arith, le-mul_of_pos_right rows (positive_right rows (extent_of shape).columns (omega arith)))
