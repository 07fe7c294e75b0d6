-- Axes in other places.
use Rattle.std.proofs.Common.{◌≡◌, ℕ, ℤ, pos, zero, suc, ◌+◌, ◌*◌, ◌<◌, ◌≤◌, ◌==◌, ◌||◌, Bool, true, false, not, cond, min, List, [], ◌∷◌, map, Option, Some, None, length, get_or, drop, refl, sym, ap, subst, ◌∙◌, arith}
use Rattle.std.specs.List.{list_any}
use Rattle.std.proofs.lemmas.Bool.Decides.{nat_tests}
use Rattle.std.proofs.lemmas.List.FromFn.{get_or-map-range_with_len, length-map-range_with_len}
use Rattle.apl_arrays.specs.Array.{PlainArray, PlainItems, FitsLimits, IsArray, element_count, item_count, numbers_in, numbers, chars, is_chars}
use Rattle.apl_arrays.specs.Glyph.{blank}
use Rattle.apl_items.specs.Answers.{first_report}
use Rattle.apl_items.specs.Axis.{lacks_axis}
use Rattle.apl_items.specs.Axes.{added, offset_at, source_by_axes}
use Rattle.apl_items.specs.Moves.{item_or, moved, moved_items}
use Rattle.apl_items.specs.Places.{places}
use Rattle.apl_items.specs.Shapes.{AreWithin, coordinates_of, place_of, stride_of}
use Rattle.apl_items.proofs.ShapeLemmas.{coordinates_are_within, parts_fit, place_of_below}
use Rattle.apl_structure.specs.Diagonals.{axes_by_faults, axes_named, axis_count, coordinates_by, diagonal_shape, least_length, leaves_gap, step_along, transposed_by}
use Rattle.apl_selection.proofs.PickLemmas.{as_many_within, each_within, same_offsets, some_same}
use Rattle.apl_selection.proofs.FaultLemmas.{count_of_numbers, nothing_is_wrong, same_number}
use Rattle.apl_selection.proofs.MoveLemmas.{array_of, same_map, same_moved}

-- ---- offsets that grow evenly along each axis

-- the sum of coordinates, each as often as its axis weighs
total : (ℕ → ℕ) → ℕ → List ℕ → ℕ
total weight axis [] = 0
total weight axis (first ∷ rest) = first * weight axis + total weight (axis + 1) rest

offset_total : (weight : ℕ → ℕ) (axis : ℕ) (coordinates : List ℕ) → offset_at (λ axis along. Some (along * weight axis)) axis coordinates ≡ Some (total weight axis coordinates)
unfolding total
offset_total weight axis [] = refl
offset_total weight axis (first ∷ rest) = ap (added (Some (first * weight axis))) (offset_total weight (axis + 1) rest)

total_same : (f g : ℕ → ℕ) → ((axis : ℕ) → f axis ≡ g axis) → (axis : ℕ) (coordinates : List ℕ) → total f axis coordinates ≡ total g axis coordinates
unfolding total
total_same f g same axis [] = refl
total_same f g same axis (first ∷ rest) =
    ap (λ (n : ℕ). first * n + total f (axis + 1) rest) (same axis) ∙ ap (λ (n : ℕ). first * g axis + n) (total_same f g same (axis + 1) rest)

total_none : (axis : ℕ) (coordinates : List ℕ) → total (λ k. 0) axis coordinates ≡ 0
unfolding total
total_none axis [] = refl
total_none axis (first ∷ rest) = let after = total_none (axis + 1) rest in omega arith

total_sum : (f g : ℕ → ℕ) (axis : ℕ) (coordinates : List ℕ) → total (λ k. f k + g k) axis coordinates ≡ total f axis coordinates + total g axis coordinates
unfolding total
total_sum f g axis [] = refl
total_sum f g axis (first ∷ rest) = sums first (f axis) (g axis) (total f (axis + 1) rest) (total g (axis + 1) rest) (total (λ k. f k + g k) (axis + 1) rest) (total_sum f g (axis + 1) rest)
  where
    sums : (n x y p q r : ℕ) → r ≡ p + q → n * (x + y) + r ≡ (n * x + p) + (n * y + q)
    sums n x y p q r e = omega arith

same_test : (m n : ℕ) → m ≡ n → (m == n) ≡ true
same_test m n e = grind (arith, nat_tests)

other_test : (m n : ℕ) → m < n → (m == n) ≡ false
other_test m n e = grind (arith, nat_tests)

other_way : (m n : ℕ) → n < m → (m == n) ≡ false
other_way m n e = grind (arith, nat_tests)

-- one axis alone weighs something: behind it nothing does
total_past : (named n axis : ℕ) (coordinates : List ℕ) → named < axis → total (λ k. cond (named == k) n 0) axis coordinates ≡ 0
unfolding total
total_past named n axis [] low = refl
total_past named n axis (first ∷ rest) low =
    let test = other_test named axis low in
    let after = total_past named n (axis + 1) rest (omega arith) in
    ap (λ (b : Bool). first * cond b n 0 + total (λ k. cond (named == k) n 0) (axis + 1) rest) test ∙ nothing first _ after
  where
    nothing : (a b : ℕ) → b ≡ 0 → a * 0 + b ≡ 0
    nothing a b e = omega arith

total_alone : (named n axis on : ℕ) (coordinates : List ℕ) → named ≡ axis + on → total (λ k. cond (named == k) n 0) axis coordinates ≡ get_or coordinates on 0 * n
unfolding total
total_alone named n axis on [] e = let none : 0 * n ≡ 0 = omega arith in sym none
total_alone named n axis zero (first ∷ rest) e =
    let test = same_test named axis (omega arith) in
    let after = total_past named n (axis + 1) rest (omega arith) in
    ap (λ (b : Bool). first * cond b n 0 + total (λ k. cond (named == k) n 0) (axis + 1) rest) test ∙ alone (first * n) _ after
  where
    alone : (a b : ℕ) → b ≡ 0 → a + b ≡ a
    alone a b e = omega arith
total_alone named n axis (suc on) (first ∷ rest) e =
    let test = other_way named axis (omega arith) in
    let after = total_alone named n (axis + 1) on rest (omega arith) in
    ap (λ (b : Bool). first * cond b n 0 + total (λ k. cond (named == k) n 0) (axis + 1) rest) test ∙ behind first _ _ after
  where
    behind : (a b c : ℕ) → b ≡ c → a * 0 + b ≡ c
    behind a b c e = omega arith

step_parts : (test : Bool) (stride step : ℕ) → cond test (stride + step) step ≡ cond test stride 0 + step
step_parts true stride step = refl
step_parts false stride step = omega arith

-- the offsets by steps are the place of the coordinates along B's axes
steps_total : (axes shape strides coordinates : List ℕ) → length axes ≡ length shape → length strides ≡ length shape → ((k : ℕ) → k < length shape → get_or strides k 0 ≡ stride_of shape k)
    → total (step_along axes strides) 0 coordinates ≡ place_of shape (coordinates_by axes coordinates)
steps_total [] [] strides coordinates p q each = total_same (step_along [] strides) (λ k. 0) (λ k. refl) 0 coordinates ∙ total_none 0 coordinates
steps_total [] (long ∷ shape) strides coordinates p q each = absurd (omega arith)
steps_total (named ∷ axes) [] strides coordinates p q each = absurd (omega arith)
steps_total (named ∷ axes) (long ∷ shape) [] coordinates p q each = absurd (omega arith)
steps_total (named ∷ axes) (long ∷ shape) (stride ∷ strides) coordinates p q each =
    let first : stride ≡ element_count shape = each 0 (omega arith) in
    let rest = steps_total axes shape strides coordinates (omega arith) (omega arith)
    (λ k h. let next : suc k + 1 ≡ suc (k + 1) = omega arith in each (suc k) (omega arith) ∙ ap (λ (n : ℕ). element_count (drop n (long ∷ shape))) next) in
    total_same (step_along (named ∷ axes) (stride ∷ strides)) (λ k. cond (named == k) stride 0 + step_along axes strides k) (λ k. step_parts (named == k) stride (step_along axes strides k)) 0 coordinates
    ∙ total_sum (λ k. cond (named == k) stride 0) (step_along axes strides) 0 coordinates
    ∙ ap (λ (n : ℕ). n + total (step_along axes strides) 0 coordinates) (total_alone named stride 0 named coordinates (omega arith))
    ∙ ap (λ (n : ℕ). get_or coordinates named 0 * n + total (step_along axes strides) 0 coordinates) first
    ∙ ap (λ (n : ℕ). get_or coordinates named 0 * element_count shape + n) rest

step_by : (test : Bool) (stride step n : ℕ) → stride ≤ 16384 → step ≤ 16384 * n → cond test (stride + step) step ≤ 16384 * (n + 1)
step_by true stride step n p q = omega arith
step_by false stride step n p q = omega arith

-- steps are small
steps_small : (axes strides : List ℕ) (axis : ℕ) → ((k : ℕ) → k < length strides → get_or strides k 0 ≤ 16384) → step_along axes strides axis ≤ 16384 * length strides
steps_small [] strides axis small = omega arith
steps_small (named ∷ axes) [] axis small = omega arith
steps_small (named ∷ axes) (stride ∷ strides) axis small =
    let rest = steps_small axes strides axis (λ k h. small (suc k) (omega arith)) in
    let one = step_by (named == axis) stride (step_along axes strides axis) (length strides) (small 0 (omega arith)) rest in
    let next : length (stride ∷ strides) ≡ length strides + 1 = omega arith in
    subst (λ (n : ℕ). step_along (named ∷ axes) (stride ∷ strides) axis ≤ 16384 * n) (sym next) one

-- ---- coordinates within B

least_of : (test : Bool) (long least at : ℕ) → at < cond test (min long least) least → at < least
least_of true long least at low = omega arith
least_of false long least at low = low

within_by : (axes shape coordinates : List ℕ) → length axes ≡ length shape → ((axis : ℕ) → axis < axis_count axes → get_or coordinates axis 0 < least_length axes shape axis)
    → AreWithin shape (coordinates_by axes coordinates)
within_by [] [] coordinates e low = tt
within_by [] (long ∷ shape) coordinates e low = absurd (omega arith)
within_by (named ∷ axes) [] coordinates e low = absurd (omega arith)
within_by (named ∷ axes) (long ∷ shape) coordinates e low =
    let here : get_or coordinates named 0 < least_length (named ∷ axes) (long ∷ shape) named = low named (omega arith) in
    let test = same_test named named refl in
    let first : get_or coordinates named 0 < min long (least_length axes shape named) = subst (λ (b : Bool). get_or coordinates named 0 < cond b (min long (least_length axes shape named)) (least_length axes shape named)) test here in
    (omega arith, within_by axes shape coordinates (omega arith) (λ axis h. least_of (named == axis) long (least_length axes shape axis) (get_or coordinates axis 0) (low axis (omega arith))))

pub within_diagonal : (axes shape : List ℕ) (coordinates : List ℕ) → length axes ≡ length shape → AreWithin (diagonal_shape axes shape) coordinates → AreWithin shape (coordinates_by axes coordinates)
within_diagonal axes shape coordinates e within =
    let rank = length-map-range_with_len (least_length axes shape) 0 (axis_count axes) in
    within_by axes shape coordinates e (λ axis h.
    let low = each_within (diagonal_shape axes shape) coordinates axis within (omega arith) in
    let at = get_or-map-range_with_len (least_length axes shape) 0 (axis_count axes) axis axis 0 h (omega arith) in omega arith)

-- ---- items in other places

-- steps as they are listed give the place in B
pub steps_same : (axes source shape strides steps : List ℕ) → length axes ≡ length source → FitsLimits source → 0 < element_count source → length strides ≡ length source
    → ((k : ℕ) → k < length source → get_or strides k 0 ≡ stride_of source k) → steps ≡ map (step_along axes strides) (places (length shape))
    → (place : ℕ) → place < element_count shape
    → source_by_axes shape (λ axis along. Some (along * min (get_or steps axis 0) 262143)) place ≡ Some (place_of source (coordinates_by axes (coordinates_of shape place)))
steps_same axes source shape strides steps e fits some whole each is place below =
    let coordinates : List ℕ = coordinates_of shape place in
    let many = as_many_within shape coordinates (coordinates_are_within shape place below) in
    let small : (k : ℕ) → k < length strides → get_or strides k 0 ≤ 16384 = λ k h.
    let parts = parts_fit source k fits some (omega arith) in let at = each k (omega arith) in omega (arith, parts.1.elements) in
    same_offsets (λ axis along. Some (along * min (get_or steps axis 0) 262143)) (λ axis along. Some (along * step_along axes strides axis)) 0 coordinates
    (λ k h. let at = ap (λ (xs : List ℕ). get_or xs (0 + k) 0) is ∙ get_or-map-range_with_len (step_along axes strides) 0 (length shape) (0 + k) (0 + k) 0 (omega arith) (omega arith) in
    let bound = steps_small axes strides (0 + k) small in
    let least : min (get_or steps (0 + k) 0) 262143 ≡ step_along axes strides (0 + k) = omega (arith, fits.rank) in
    ap (λ (n : ℕ). Some (get_or coordinates k 0 * n)) least)
    ∙ offset_total (step_along axes strides) 0 coordinates ∙ ap (λ (n : ℕ). Some n) (steps_total axes source strides coordinates e whole each)

-- and that place is one of B's
pub diagonal_within : (axes source shape : List ℕ) (place at : ℕ) → shape ≡ diagonal_shape axes source → length axes ≡ length source → place < element_count shape
    → Some (place_of source (coordinates_by axes (coordinates_of shape place))) ≡ Some at → at < element_count source
diagonal_within axes source shape place at s e below is =
    let inside = subst (λ (xs : List ℕ). AreWithin xs (coordinates_of shape place)) s (coordinates_are_within shape place below) in
    let within = within_diagonal axes source (coordinates_of shape place) e inside in
    let low = place_of_below source (coordinates_by axes (coordinates_of shape place)) within in
    let same = some_same _ at is in omega arith

fill_from_none : {T : Type 0} (fill : T) (source : Option ℕ) → item_or fill [] source ≡ fill
fill_from_none fill None = refl
fill_from_none fill (Some at) = refl

-- items that are none move anyhow
pub nothing_moves : (items : PlainItems) (count : ℕ) (f g : ℕ → Option ℕ) → item_count items ≡ 0 → moved_items items count f ≡ moved_items items count g
nothing_moves (numbers []) count f g none = ap numbers (same_map (λ p. item_or (pos 0) [] (f p)) (λ p. item_or (pos 0) [] (g p)) count (λ k h. fill_from_none (pos 0) (f k) ∙ sym (fill_from_none (pos 0) (g k))))
nothing_moves (numbers (x ∷ xs)) count f g none = absurd (omega arith)
nothing_moves (chars []) count f g none = ap chars (same_map (λ p. item_or blank [] (f p)) (λ p. item_or blank [] (g p)) count (λ k h. fill_from_none blank (f k) ∙ sym (fill_from_none blank (g k))))
nothing_moves (chars (x ∷ xs)) count f g none = absurd (omega arith)

-- the array of items that moved by them is the transpose
pub diagonal_is : (axes : List ℕ) (b : PlainArray) (shape strides steps : List ℕ) (items made : PlainItems) → shape ≡ diagonal_shape axes b.shape → length axes ≡ length b.shape → IsArray b
    → 0 < element_count b.shape → length strides ≡ length b.shape → ((k : ℕ) → k < length b.shape → get_or strides k 0 ≡ stride_of b.shape k)
    → steps ≡ map (step_along axes strides) (places (length shape)) → items ≡ b.items
    → made ≡ moved_items items (element_count shape) (source_by_axes shape (λ axis along. Some (along * min (get_or steps axis 0) 262143)))
    → array_of shape made ≡ transposed_by axes b
diagonal_is axes b shape strides steps items made s e array some whole each steps_are i is =
    let listed : ℕ → Option ℕ = source_by_axes shape (λ axis along. Some (along * min (get_or steps axis 0) 262143)) in
    let source : ℕ → Option ℕ = λ place. Some (place_of b.shape (coordinates_by axes (coordinates_of shape place))) in
    ap (array_of shape) (is ∙ ap (λ (xs : PlainItems). moved_items xs (element_count shape) listed) i
    ∙ same_moved b.items (element_count shape) listed source (steps_same axes b.shape shape strides steps e array.fits some whole each steps_are))
    ∙ ap (λ (xs : List ℕ). moved xs b.items (λ place. Some (place_of b.shape (coordinates_by axes (coordinates_of xs place))))) s

-- and so is that of none, where B has none
pub nothing_is : (axes : List ℕ) (b : PlainArray) (shape : List ℕ) (items made : PlainItems) (count : ℕ) → shape ≡ diagonal_shape axes b.shape → item_count items ≡ 0 → items ≡ b.items → count ≡ element_count shape
    → made ≡ moved_items items count (λ _. None) → array_of shape made ≡ transposed_by axes b
nothing_is axes b shape items made count s none i n is =
    let source : ℕ → Option ℕ = λ place. Some (place_of b.shape (coordinates_by axes (coordinates_of shape place))) in
    ap (array_of shape) (is ∙ ap (λ (m : ℕ). moved_items items m (λ _. None)) n ∙ nothing_moves items (element_count shape) (λ _. None) source none
    ∙ ap (λ (xs : PlainItems). moved_items xs (element_count shape) source) i)
    ∙ ap (λ (xs : List ℕ). moved xs b.items (λ place. Some (place_of b.shape (coordinates_by axes (coordinates_of xs place))))) s

-- ---- a transpose on which nothing is reported

none_of_three : (x y z : Bool) → (x || y || z) ≡ false → (x ≡ false) × (y ≡ false) × (z ≡ false)
none_of_three true y z e = absurd (cc)
none_of_three false true z e = absurd (cc)
none_of_three false false true e = absurd (cc)
none_of_three false false false e = (refl, refl, refl)

-- what is known of A: a number for each axis, from 1 to the rank, and no gap between them
pub record AreAxes (numbers : List ℤ) (rank : ℕ) : Type 0 where
  pub many : length numbers ≡ rank
  pub each : list_any (λ number. lacks_axis rank (Some number)) numbers ≡ false
  pub whole : leaves_gap (axes_named numbers) ≡ false

pub are_axes : (a b : PlainArray) → None ≡ first_report (axes_by_faults a b) → AreAxes (numbers_in a.items) (length b.shape)
are_axes a b none =
    let sound = nothing_is_wrong (axes_by_faults a b) none in
    let parts = none_of_three (is_chars a.items) (list_any (λ number. lacks_axis (length b.shape) (Some number)) (numbers_in a.items)) (leaves_gap (axes_named (numbers_in a.items))) sound.domain in record {
      many = sym (count_of_numbers a.items parts.0) ∙ same_number (item_count a.items) (length b.shape) (not_false (item_count a.items == length b.shape) sound.long);
      each = parts.1;
      whole = parts.2;
    }
  where
    not_false : (x : Bool) → not x ≡ false → x ≡ true
    not_false true e = refl
    not_false false e = absurd (cc)
