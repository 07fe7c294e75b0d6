-- The places and the shape of a transpose.
use Rattle.std.proofs.Common.{◌≡◌, ℕ, suc, ◌+◌, ◌-◌, ◌*◌, ◌<◌, ◌≤◌, List, [], ◌∷◌, Option, Some, None, length, get_or, drop, reverse, refl, sym, ap, subst, ◌∙◌, arith}
use Rattle.std.proofs.lemmas.List.{get_or-reverse, length-reverse, reverse-append}
use Rattle.std.proofs.lemmas.List.Elements.{All-from_get_or}
use Rattle.std.proofs.lemmas.Nat.{row_fits}
use Rattle.std.proofs.Math.Nat.{mul_comm}
use Rattle.apl_arrays.specs.Array.{PlainArray, PlainItems, FitsLimits, IsArray, numbers, chars, element_count, item_count}
use Rattle.apl_items.specs.Axes.{added, offset_at, source_by_axes}
use Rattle.apl_items.specs.Moves.{moved, moved_items}
use Rattle.apl_items.specs.Shapes.{coordinates_of, stride_of}
use Rattle.apl_items.proofs.ShapeLemmas.{coordinates_are_within, element_count-append, element_count-cons}
use Rattle.apl_structure.specs.Transposition.{opposite_offset, transposed}
use Rattle.apl_selection.proofs.PickLemmas.{as_many_within, axes_small, count_from, count_of_none, each_within, same_offsets, some_same}
use Rattle.apl_selection.proofs.MoveLemmas.{array_of, same_moved}

row_and_rest : (place stride after height source count : ℕ) → place < height → after + height * stride ≤ count → place * stride + after ≡ source → source + stride ≤ count
row_and_rest place stride after height source count p rest is =
    let one = row_fits place stride height stride p (omega arith) in omega arith

-- the places of a transpose stand in its argument
pub opposite_within : (shape : List ℕ) (axis : ℕ) (coordinates : List ℕ) (source : ℕ) → length coordinates + axis ≡ length shape
    → ((k : ℕ) → k < length coordinates → get_or coordinates k 0 < get_or shape (length shape - 1 - (axis + k)) 0)
    → offset_at (opposite_offset shape) axis coordinates ≡ Some source → source + element_count (drop (length coordinates) shape) ≤ element_count shape
opposite_within shape axis [] source len inside at = let is = some_same 0 source at in omega arith
opposite_within shape axis (first ∷ rest) source len inside at =
    by_after (offset_at (opposite_offset shape) (axis + 1) rest)
    (λ later e. opposite_within shape (axis + 1) rest later (omega arith)
    (λ k h. let next : length shape - 1 - (axis + suc k) ≡ length shape - 1 - ((axis + 1) + k) = omega arith in
    subst (λ (n : ℕ). get_or rest k 0 < get_or shape n 0) next (inside (suc k) (omega arith))) e)
    refl at
  where
    by_after : (after : Option ℕ) → ((later : ℕ) → offset_at (opposite_offset shape) (axis + 1) rest ≡ Some later → later + element_count (drop (length rest) shape) ≤ element_count shape)
        → offset_at (opposite_offset shape) (axis + 1) rest ≡ after
        → added (Some (first * stride_of shape (length shape - 1 - axis))) after ≡ Some source → source + element_count (drop (length (first ∷ rest)) shape) ≤ element_count shape
    by_after None bound q e = absurd (cc)
    by_after (Some later) bound q e =
        let m : length shape - 1 - axis ≡ length rest = omega arith in
        let m0 : length shape - 1 - (axis + 0) ≡ length rest = omega arith in
        let next : length (first ∷ rest) ≡ length rest + 1 = omega arith in
        let below : first < get_or shape (length rest) 0 = subst (λ (n : ℕ). first < get_or shape n 0) m0 (inside 0 (omega arith)) in
        let is : first * stride_of shape (length rest) + later ≡ source = subst (λ (n : ℕ). first * stride_of shape n + later ≡ source) m (some_same _ source e) in
        let all = count_from shape (length rest) (omega arith) in
        let whole : later + get_or shape (length rest) 0 * stride_of shape (length rest) ≤ element_count shape = omega (arith, bound later q, all) in
        subst (λ (n : ℕ). source + element_count (drop n shape) ≤ element_count shape) (sym next)
        (row_and_rest first (stride_of shape (length rest)) later (get_or shape (length rest) 0) source (element_count shape) below whole is)

-- ---- transposes

pub element_count-reverse : (shape : List ℕ) → element_count (reverse shape) ≡ element_count shape
element_count-reverse [] = refl
element_count-reverse (x ∷ xs) =
    let one : 1 * x ≡ x = omega arith in
    ap element_count (reverse-append (x ∷ []) xs) ∙ element_count-append (reverse xs) (x ∷ []) ∙ ap (λ (n : ℕ). element_count (reverse xs) * n) one
    ∙ ap (λ (n : ℕ). n * x) (element_count-reverse xs) ∙ mul_comm (element_count xs) x ∙ sym (element_count-cons x xs)

fits_reversed : (shape : List ℕ) → FitsLimits shape → FitsLimits (reverse shape)
fits_reversed shape fits = record {
  rank = omega (arith, fits.rank, length-reverse shape);
  axes = All-from_get_or (λ n. n ≤ 16384) (reverse shape) 0 (λ i h.
      let len = length-reverse shape in
      let inside : i < length shape = omega arith in
      let at = get_or-reverse shape i 0 inside in
      subst (λ (n : ℕ). n ≤ 16384) (sym at) (axes_small shape fits (length shape - 1 - i) (omega arith)));
  elements = omega (arith, fits.elements, element_count-reverse shape);
}

pub fits_transposed : (b : PlainArray) (shape : List ℕ) → IsArray b → shape ≡ reverse b.shape → FitsLimits shape
fits_transposed b shape array e = subst FitsLimits (sym e) (fits_reversed b.shape array.fits)

pub count_transposed : (b : PlainArray) (shape : List ℕ) → IsArray b → shape ≡ reverse b.shape → element_count shape ≡ item_count b.items
count_transposed b shape array e = ap element_count e ∙ element_count-reverse b.shape ∙ array.whole

rank_transposed : (b : PlainArray) (shape : List ℕ) → shape ≡ reverse b.shape → length shape ≡ length b.shape
rank_transposed b shape e = ap (λ (xs : List ℕ). length xs) e ∙ length-reverse b.shape

axis_transposed : (b : PlainArray) (shape : List ℕ) (k : ℕ) → shape ≡ reverse b.shape → k < length b.shape → get_or shape k 0 ≡ get_or b.shape (length b.shape - 1 - (0 + k)) 0
axis_transposed b shape k e h =
    let same : length b.shape - 1 - k ≡ length b.shape - 1 - (0 + k) = omega arith in
    ap (λ (xs : List ℕ). get_or xs k 0) e ∙ get_or-reverse b.shape k 0 h ∙ ap (λ (n : ℕ). get_or b.shape n 0) same

pub transposed_within : (b : PlainArray) (shape : List ℕ) → IsArray b → shape ≡ reverse b.shape → (place at : ℕ) → place < element_count shape
    → source_by_axes shape (opposite_offset b.shape) place ≡ Some at → at < item_count b.items
transposed_within b shape array e place at below is =
    let coordinates : List ℕ = coordinates_of shape place in
    let within = coordinates_are_within shape place below in
    let many = as_many_within shape coordinates within in
    let rank = rank_transposed b shape e in
    let bound = opposite_within b.shape 0 coordinates at (omega arith)
    (λ k h. subst (λ (n : ℕ). get_or coordinates k 0 < n) (axis_transposed b shape k e (omega arith)) (each_within shape coordinates k within (omega arith))) is in
    let last = count_of_none b.shape (length coordinates) (omega arith) in
    omega (arith, bound, last, array.whole)

-- offsets by a list of strides are those of the transpose
pub transposed_same : (b : PlainArray) (shape strides : List ℕ) → shape ≡ reverse b.shape → length strides ≡ length b.shape
    → ((axis : ℕ) → axis < length b.shape → get_or strides axis 0 ≡ stride_of b.shape axis) → (place : ℕ) → place < element_count shape
    → source_by_axes shape (λ axis along. Some (along * get_or strides (length strides - 1 - axis) 0)) place ≡ source_by_axes shape (opposite_offset b.shape) place
transposed_same b shape strides e whole each place below =
    let coordinates : List ℕ = coordinates_of shape place in
    let many = as_many_within shape coordinates (coordinates_are_within shape place below) in
    let rank = rank_transposed b shape e in
    same_offsets (λ axis along. Some (along * get_or strides (length strides - 1 - axis) 0)) (opposite_offset b.shape) 0 coordinates
    (λ k h. let same : length strides - 1 - (0 + k) ≡ length b.shape - 1 - (0 + k) = omega arith in
    let stride = ap (λ (n : ℕ). get_or strides n 0) same ∙ each (length b.shape - 1 - (0 + k)) (omega arith) in
    ap (λ (n : ℕ). Some (get_or coordinates k 0 * n)) stride)

-- the array of the items that moved by them is the transpose
pub transposed_is : (b : PlainArray) (shape strides : List ℕ) (items made : PlainItems) → shape ≡ reverse b.shape → length strides ≡ length b.shape
    → ((axis : ℕ) → axis < length b.shape → get_or strides axis 0 ≡ stride_of b.shape axis) → items ≡ b.items
    → made ≡ moved_items items (element_count shape) (source_by_axes shape (λ axis along. Some (along * get_or strides (length strides - 1 - axis) 0)))
    → array_of shape made ≡ transposed b
transposed_is b shape strides items made e whole each same is =
    let listed = source_by_axes shape (λ axis along. Some (along * get_or strides (length strides - 1 - axis) 0)) in
    let source = source_by_axes shape (opposite_offset b.shape) in
    ap (array_of shape) (is ∙ ap (λ (xs : PlainItems). moved_items xs (element_count shape) listed) same ∙ same_moved b.items (element_count shape) listed source (transposed_same b shape strides e whole each))
    ∙ ap (λ (axes : List ℕ). moved axes b.items (source_by_axes axes (opposite_offset b.shape))) e

-- nothing that moves is nothing
none_moved : (items : PlainItems) (source : ℕ → Option ℕ) → item_count items ≡ 0 → items ≡ moved_items items 0 source
none_moved (numbers []) source none = refl
none_moved (numbers (first ∷ rest)) source none = absurd (cc)
none_moved (chars []) source none = refl
none_moved (chars (first ∷ rest)) source none = absurd (cc)

-- the transpose of an array without items has none
pub nothing_transposed : (b : PlainArray) (shape : List ℕ) (made : PlainItems) → IsArray b → shape ≡ reverse b.shape → item_count b.items ≡ 0 → made ≡ b.items
    → array_of shape made ≡ transposed b
nothing_transposed b shape made array e none is =
    let source = source_by_axes shape (opposite_offset b.shape) in
    let count = count_transposed b shape array e ∙ none in
    ap (array_of shape) (is ∙ none_moved b.items source none ∙ ap (λ (n : ℕ). moved_items b.items n source) (sym count))
    ∙ ap (λ (axes : List ℕ). moved axes b.items (source_by_axes axes (opposite_offset b.shape))) e
