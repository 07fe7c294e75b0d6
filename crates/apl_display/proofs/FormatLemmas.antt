-- The shape and the characters of an array of numbers of rank 2 or more that has elements.
use Rattle.std.proofs.Common.{◌≡◌, ◌==◌, ℕ, zero, suc, ◌+◌, ◌-◌, ◌*◌, ◌^◌, ◌<◌, ◌≤◌, ℤ, List, [], ◌∷◌, ◌++◌, length, get_or, take, drop, map, min, max, sum, fold, ltb, sym, ap, ◌∙◌, subst, ⊎_elim, arith, if◌then◌else◌, length-append, add-one}
use Rattle.std.proofs.Math.Nat.{le-mul_of_pos_right, mul_comm}
use Rattle.std.proofs.lemmas.Bool.{cases_lt}
use Rattle.std.proofs.lemmas.Bool.Decides.{nat_tests}
use Rattle.std.proofs.lemmas.List.{length-take-le}
use Rattle.std.proofs.lemmas.List.Elements.{All-nil, All-cons, All-head, All-tail, All-append, All-map, All-from_get_or, All-take, All-push}
use Rattle.std.proofs.lemmas.List.FromFn.{length-range_with_len, get_or-range_with_len}
use Rattle.std.proofs.lemmas.List.Sums.{fold_push}
use Rattle.std.proofs.lemmas.Nat.{mul-le, mul-add-lt}
use Rattle.std.specs.List.{All, concat, range_with_len}
use Rattle.apl_arrays.specs.Array.{PlainArray, numbers, element_count, item_count, FitsLimits}
use Rattle.apl_display.proofs.ExtentLemmas.{axis_more, whole_extent, positive_left, positive_right}
use Rattle.apl_display.proofs.GroupLemmas.{joined_more_at}
use Rattle.apl_display.proofs.RowLemmas.{gap, gap_later}
use Rattle.apl_display.proofs.TextLemmas.{grouped, length_of_lines}
use Rattle.apl_display.proofs.WidthLemmas.{length_of_row}
use Rattle.apl_display.specs.Display.{display_lines, item_line}
use Rattle.apl_display.specs.Format.{width_of}
use Rattle.apl_display.specs.Joined.{with_empty_lines}
use Rattle.apl_display.specs.Matrices.{extent_of, row_count, row_line, widths_of, matrices_lines}

second : {A : Type 0} (one none some : A) (rank count : ℕ) → 2 ≤ rank → count ≡ 0 → (if ltb rank 2 then one else (if count == 0 then none else some)) ≡ none
second one none some rank count long nothing = grind (arith, nat_tests)

-- where a table has no items its lines have no width
pub no_width : (b : PlainArray) → 2 ≤ length b.shape → item_count b.items ≡ 0 → width_of (display_lines b) ≡ 0
no_width b long nothing = ap width_of (second _ [] _ (length b.shape) (item_count b.items) long nothing)

-- how wide the lines of a table of numbers are
abbrev pub table_width : List ℕ → List ℤ → ℕ
table_width shape list = length (widths_of (numbers list) (extent_of shape)) - 1 + sum (widths_of (numbers list) (extent_of shape))

-- the third of three cases
third : {A : Type 0} (one none some : A) (rank count : ℕ) → 2 ≤ rank → 0 < count → (if ltb rank 2 then one else (if count == 0 then none else some)) ≡ some
third one none some rank count long has = grind (arith, nat_tests)

pub table_display : (b : PlainArray) → 2 ≤ length b.shape → 0 < item_count b.items → display_lines b ≡ matrices_lines b.items (extent_of b.shape)
table_display b long has = third (item_line b.items ∷ []) [] (matrices_lines b.items (extent_of b.shape)) (length b.shape) (item_count b.items) long has

-- the longest is no longer than a bound
longest_le : (lines : List (List ℕ)) (start width : ℕ) → start ≤ width → All (λ line. length line ≤ width) lines → fold max start (map length lines) ≤ width
longest_le [] start width low short = low
longest_le (line ∷ lines) start width low short =
    let first : length line ≤ width = All-head (λ l. length l ≤ width) line lines short in
    longest_le lines (max start (length line)) width (omega arith) (All-tail (λ l. length l ≤ width) line lines short)

le_longest : (lines : List (List ℕ)) (start : ℕ) → start ≤ fold max start (map length lines)
le_longest [] start = omega arith
le_longest (line ∷ lines) start =
    let more : max start (length line) ≤ fold max (max start (length line)) (map length lines) = le_longest lines (max start (length line)) in
    omega arith

-- lines of one length, and empty lines between their groups
short_gap : (width n : ℕ) → All (λ (line : List ℕ). length line ≤ width) (gap ([] ∷ []) n)
short_gap width zero = All-nil (λ (line : List ℕ). length line ≤ width)
short_gap width (suc n) =
    subst (All (λ (line : List ℕ). length line ≤ width)) (sym (gap_later ([] ∷ []) n))
    (All-cons (λ (line : List ℕ). length line ≤ width) [] [] (omega arith) (All-nil (λ (line : List ℕ). length line ≤ width)))

short_group : (f : ℕ → List ℕ) (size groups width group : ℕ) → group < groups → ((k : ℕ) → k < groups * size → length (f k) ≡ width) → All (λ line. length line ≤ width) (map (λ k. f (group * size + k)) (range_with_len 0 size))
short_group f size groups width group below long =
    All-map (λ line. length line ≤ width) (λ k. f (group * size + k)) (range_with_len 0 size)
    (All-from_get_or (λ k. length (f (group * size + k)) ≤ width) (range_with_len 0 size) 0
    (λ i within.
    let inside : i < size = omega (arith, length-range_with_len 0 size) in
    let place : i ≡ get_or (range_with_len 0 size) i 0 = omega (arith, get_or-range_with_len 0 size i 0 inside) in
    let here : length (f (group * size + i)) ≡ width = long (group * size + i) (omega (arith, mul-add-lt group size i groups below inside, mul_comm groups size)) in
    subst (λ k. length (f (group * size + k)) ≤ width) place (omega arith)))

short_lines : (f : ℕ → List ℕ) (size groups width n : ℕ) → n ≤ groups → ((k : ℕ) → k < groups * size → length (f k) ≡ width) → All (λ line. length line ≤ width) (with_empty_lines (map (λ group. map (λ k. f (group * size + k)) (range_with_len 0 size)) (range_with_len 0 n)))
short_lines f size groups width zero within long = All-nil (λ (line : List ℕ). length line ≤ width)
short_lines f size groups width (suc n) within long =
    let group : ℕ → List (List ℕ) = λ m. map (λ k. f (m * size + k)) (range_with_len 0 size) in
    let so_far : ℕ → List (List ℕ) = λ m. with_empty_lines (map group (range_with_len 0 m)) in
    let IsShort : List ℕ → Type 0 = λ line. length line ≤ width in
    subst (λ m. All IsShort (so_far m)) (add-one n)
    (subst (All IsShort) (sym (joined_more_at ([] ∷ []) group n))
    (All-append IsShort (so_far n) (gap ([] ∷ []) n ++ group n) (short_lines f size groups width n (omega arith) long)
    (All-append IsShort (gap ([] ∷ []) n) (group n) (short_gap width n) (short_group f size groups width n (omega arith) long))))

-- the longest of such lines
longest_line : (f : ℕ → List ℕ) (size groups width : ℕ) → 0 < size → 0 < groups → ((k : ℕ) → k < groups * size → length (f k) ≡ width) → width_of (with_empty_lines (map (λ group. map (λ k. f (group * size + k)) (range_with_len 0 size)) (range_with_len 0 groups))) ≡ width
longest_line f zero groups width some has long = absurd (omega arith)
longest_line f (suc size) zero width some has long = absurd (omega arith)
longest_line f (suc size) (suc groups) width some has long =
    let lines : List (List ℕ) = with_empty_lines (map (λ group. map (λ k. f (group * suc size + k)) (range_with_len 0 (suc size))) (range_with_len 0 (suc groups))) in
    let most : width_of lines ≤ width = longest_le lines 0 width (omega arith) (short_lines f (suc size) (suc groups) width (suc groups) (omega arith) long) in
    let first : length (f (0 * suc size + 0)) ≡ width = long (0 * suc size + 0) (omega arith) in
    let least : max 0 (length (f (0 * suc size + 0))) ≤ width_of lines = le_longest (drop 1 lines) (max 0 (length (f (0 * suc size + 0)))) in
    omega arith

-- each line of a table of numbers is as wide
line_width : (shape : List ℕ) (list : List ℤ) (row : ℕ) → 2 ≤ length shape → element_count shape ≡ length list → row < row_count (extent_of shape) → length (row_line (numbers list) (extent_of shape) row) ≡ table_width shape list
line_width shape list row long whole below =
    length_of_row list (extent_of shape).columns (row_count (extent_of shape)) row (omega (arith, whole_extent shape long)) below

-- there are rows
pub has_rows : (shape : List ℕ) → 2 ≤ length shape → 0 < element_count shape → 0 < row_count (extent_of shape)
has_rows shape long some = positive_left (row_count (extent_of shape)) (extent_of shape).columns (omega (arith, whole_extent shape long))

pub width_is : (shape : List ℕ) (list : List ℤ) → 2 ≤ length shape → element_count shape ≡ length list → 0 < length list → width_of (matrices_lines (numbers list) (extent_of shape)) ≡ table_width shape list
width_is shape list long whole some =
    let e = extent_of shape in
    let rows = has_rows shape long (omega arith) in
    longest_line (row_line (numbers list) e) e.rows e.matrices (table_width shape list) (positive_right e.matrices e.rows rows) (positive_left e.matrices e.rows rows)
    (λ row below. line_width shape list row long whole below)

pub text_is : (shape : List ℕ) (list : List ℤ) → concat (matrices_lines (numbers list) (extent_of shape)) ≡ concat (map (row_line (numbers list) (extent_of shape)) (range_with_len 0 (row_count (extent_of shape))))
text_is shape list = grouped (row_line (numbers list) (extent_of shape)) (extent_of shape).rows (extent_of shape).matrices

pub text_length : (shape : List ℕ) (list : List ℤ) → 2 ≤ length shape → element_count shape ≡ length list → length (concat (map (row_line (numbers list) (extent_of shape)) (range_with_len 0 (row_count (extent_of shape))))) ≡ row_count (extent_of shape) * table_width shape list
text_length shape list long whole =
    length_of_lines (row_line (numbers list) (extent_of shape)) (row_count (extent_of shape)) (table_width shape list) (λ row below. line_width shape list row long whole below)

-- the elements of a shape with another last axis
pub elements_at_width : (shape : List ℕ) (width : ℕ) → 2 ≤ length shape → element_count (take (length shape - 1) shape ++ width ∷ []) ≡ row_count (extent_of shape) * width
elements_at_width shape width long =
    let i : ℕ = length shape - 2 in
    let next : length shape - 1 ≡ i + 1 = omega arith in
    fold_push ◌*◌ 1 (take (length shape - 1) shape) width
    ∙ ap (λ n. n * width) (ap (λ n. element_count (take n shape)) next ∙ axis_more shape i (omega arith))

pub fits_at_width : (shape : List ℕ) (width : ℕ) → 2 ≤ length shape → FitsLimits shape → 0 < row_count (extent_of shape) → row_count (extent_of shape) * width ≤ 16384 → FitsLimits (take (length shape - 1) shape ++ width ∷ [])
fits_at_width shape width long fits some within =
    let narrow : width ≤ width * row_count (extent_of shape) = le-mul_of_pos_right width some in
    record {
      rank = omega (arith, length-append (take (length shape - 1) shape) (width ∷ []), length-take-le (length shape - 1) shape (omega arith), fits.rank);
      axes = All-push (λ axis. axis ≤ 16384) (take (length shape - 1) shape) width (All-take (λ axis. axis ≤ 16384) (length shape - 1) shape fits.axes) (omega (arith, mul_comm width (row_count (extent_of shape))));
      elements = omega (arith, elements_at_width shape width long);
    }

-- what the saturating product shows

pub too_large : (width rows : ℕ) → 16384 < min (min width (2 ^ 64 - 1) * rows) (2 ^ 64 - 1) → 16384 < rows * width
too_large width rows large = omega (arith, mul-le (min width (2 ^ 64 - 1)) rows width rows (omega arith) (omega arith), mul_comm width rows)

pub not_saturated : (width rows : ℕ) → 0 < rows → min (min width (2 ^ 64 - 1) * rows) (2 ^ 64 - 1) ≤ 16384 → min width (2 ^ 64 - 1) ≡ width
not_saturated width rows some small = omega (arith, le-mul_of_pos_right (min width (2 ^ 64 - 1)) some)

pub small_enough : (width rows : ℕ) → 0 < rows → min (min width (2 ^ 64 - 1) * rows) (2 ^ 64 - 1) ≤ 16384 → rows * width ≤ 16384
small_enough width rows some small =
    let same = not_saturated width rows some small in
    let product : min width (2 ^ 64 - 1) * rows ≡ width * rows = ap (λ n. n * rows) same in
    omega (arith, mul_comm width rows)

-- whether the saturating product passes the limit
pub is_wide : (width rows capped product : ℕ) → 0 < rows → capped ≡ min width (2 ^ 64 - 1) → product ≡ min (capped * rows) (2 ^ 64 - 1) → ltb 16384 product ≡ ltb 16384 (rows * width)
is_wide width rows capped product some measured multiplied =
    let whole : product ≡ min (min width (2 ^ 64 - 1) * rows) (2 ^ 64 - 1) = multiplied ∙ ap (λ n. min (n * rows) (2 ^ 64 - 1)) measured in
    ⊎_elim (λ large. let beyond : 16384 < rows * width = too_large width rows (subst (λ n. 16384 < n) whole large) in grind (arith, nat_tests))
    (λ small. let within : rows * width ≤ 16384 = small_enough width rows some (subst (λ n. n ≤ 16384) whole small) in grind (arith, nat_tests))
    (cases_lt 16384 product)
