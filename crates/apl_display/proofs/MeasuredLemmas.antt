-- What a measured table of numbers shows of the array that is made of it.
use Rattle.std.proofs.Common.{◌≡◌, ℕ, ◌-◌, ◌+◌, ◌*◌, ◌^◌, ◌<◌, ◌≤◌, ℤ, List, [], ◌∷◌, ◌++◌, Err, cond, ltb, length, take, map, min, sum, refl, sym, ap, ◌∙◌, subst, ⊎_elim, arith}
use Rattle.std.proofs.lemmas.Bool.{cases_lt}
use Rattle.std.proofs.lemmas.Bool.Decides.{nat_tests}
use Rattle.std.specs.List.{concat, range_with_len}
use Rattle.apl_arrays.specs.declared.report.Fail.{Fail}
use Rattle.apl_arrays.specs.declared.report.Fail.TheVariants.{Report, WantOfMemory}
use Rattle.apl_arrays.specs.declared.report.Report.TheVariants.{WsFull}
use Rattle.apl_arrays.specs.Array.{PlainArray, PlainItems, numbers, chars, element_count, item_count, FitsLimits, IsArray}
use Rattle.apl_display.proofs.FormatLemmas.{table_width, table_display, width_is, text_is, text_length, has_rows, elements_at_width, fits_at_width, too_large, not_saturated, small_enough}
use Rattle.apl_display.specs.declared.matrices.Extent.{Extent}
use Rattle.apl_display.specs.Display.{display_lines}
use Rattle.apl_display.specs.Format.{width_of, number_format, IsFormatRefusal}
use Rattle.apl_items.specs.Places.{OnWantOfMemory}
use Rattle.apl_display.proofs.WidthLemmas.{length_of_widths}
use Rattle.apl_display.specs.Matrices.{extent_of, row_count, row_line, row_of, widths_of, column_widths, matrices_lines, aligned}

-- the numbers of an array of rank 2 or more, its shape, its extent and the widths of its columns
pub record IsMeasured (b : PlainArray) (list : List ℤ) (shape : List ℕ) (extent : Extent) (widths : List ℕ) : Type 0 where
  pub array : IsArray b
  pub rank : 2 ≤ length b.shape
  pub kind : b.items ≡ numbers list
  pub some : 0 < length list
  pub shape_is : shape ≡ b.shape
  pub extent_is : extent ≡ extent_of shape
  pub widths_are : widths ≡ column_widths list extent.columns (row_count extent)

-- the text of all rows
abbrev pub text_of : List ℤ → Extent → List ℕ → List ℕ
text_of list extent widths = concat (map (λ row. aligned widths (row_of list extent.columns row)) (range_with_len 0 (row_count extent)))

-- characters in a shape
abbrev pub array_of : List ℕ → List ℕ → PlainArray
array_of shape text = record { shape = shape; items = chars text }

whole_of : {b : PlainArray} {list : List ℤ} {shape : List ℕ} {extent : Extent} {widths : List ℕ} → IsMeasured b list shape extent widths → element_count b.shape ≡ length list
whole_of m = m.array.whole ∙ ap item_count m.kind

extent_from : {b : PlainArray} {list : List ℤ} {shape : List ℕ} {extent : Extent} {widths : List ℕ} → IsMeasured b list shape extent widths → extent ≡ extent_of b.shape
extent_from m = m.extent_is ∙ ap extent_of m.shape_is

widths_from : {b : PlainArray} {list : List ℤ} {shape : List ℕ} {extent : Extent} {widths : List ℕ} → IsMeasured b list shape extent widths → widths ≡ widths_of (numbers list) (extent_of b.shape)
widths_from {b} {list} {shape} {extent} {widths} m = m.widths_are ∙ ap (λ (e : Extent). column_widths list e.columns (row_count e)) (extent_from m)

width_from : {b : PlainArray} {list : List ℤ} {shape : List ℕ} {extent : Extent} {widths : List ℕ} → IsMeasured b list shape extent widths → length widths - 1 + sum widths ≡ table_width b.shape list
width_from {b} {list} {shape} {extent} {widths} m = ap (λ (ws : List ℕ). length ws - 1 + sum ws) (widths_from m)

rows_from : {b : PlainArray} {list : List ℤ} {shape : List ℕ} {extent : Extent} {widths : List ℕ} → IsMeasured b list shape extent widths → row_count extent ≡ row_count (extent_of b.shape)
rows_from m = ap row_count (extent_from m)

text_from : {b : PlainArray} {list : List ℤ} {shape : List ℕ} {extent : Extent} {widths : List ℕ} → IsMeasured b list shape extent widths → text_of list extent widths ≡ concat (map (row_line (numbers list) (extent_of b.shape)) (range_with_len 0 (row_count (extent_of b.shape))))
text_from {b} {list} {shape} {extent} {widths} m =
    ap (λ (ws : List ℕ). text_of list extent ws) (widths_from m) ∙ ap (λ (e : Extent). text_of list e (widths_of (numbers list) (extent_of b.shape))) (extent_from m)

-- the display lines
display_from : {b : PlainArray} {list : List ℤ} {shape : List ℕ} {extent : Extent} {widths : List ℕ} → IsMeasured b list shape extent widths → display_lines b ≡ matrices_lines (numbers list) (extent_of b.shape)
display_from {b} {list} {shape} {extent} {widths} m =
    let count : item_count b.items ≡ length list = ap item_count m.kind in
    table_display b m.rank (omega (arith, m.some)) ∙ ap (λ (items : PlainItems). matrices_lines items (extent_of b.shape)) m.kind

lines_width : {b : PlainArray} {list : List ℤ} {shape : List ℕ} {extent : Extent} {widths : List ℕ} → IsMeasured b list shape extent widths → width_of (display_lines b) ≡ table_width b.shape list
lines_width {b} {list} m = ap width_of (display_from m) ∙ width_is b.shape list m.rank (whole_of m) m.some

lines_text : {b : PlainArray} {list : List ℤ} {shape : List ℕ} {extent : Extent} {widths : List ℕ} → IsMeasured b list shape extent widths → concat (display_lines b) ≡ text_of list extent widths
lines_text {b} {list} m = ap concat (display_from m) ∙ (text_is b.shape list ∙ sym (text_from m))

-- the width that the code computed, and its product with the rows
pub passes_limits : {b : PlainArray} {list : List ℤ} {shape : List ℕ} {extent : Extent} {widths : List ℕ} (width product : ℕ) → IsMeasured b list shape extent widths → width ≡ min (length widths - 1 + sum widths) (2 ^ 64 - 1) → product ≡ min (width * row_count extent) (2 ^ 64 - 1) → 16384 < product → FitsLimits (number_format b).shape → ⊥
passes_limits {b} {list} {shape} {extent} {widths} width product m measured multiplied large fits =
    let w : ℕ = table_width b.shape list in
    let capped : width ≡ min w (2 ^ 64 - 1) = measured ∙ ap (λ n. min n (2 ^ 64 - 1)) (width_from m) in
    let whole : product ≡ min (min w (2 ^ 64 - 1) * row_count extent) (2 ^ 64 - 1) = multiplied ∙ ap (λ n. min (n * row_count extent) (2 ^ 64 - 1)) capped in
    let beyond : 16384 < row_count extent * w = too_large w (row_count extent) (omega arith) in
    let elements = elements_at_width b.shape (width_of (display_lines b)) m.rank ∙ (ap (λ n. row_count (extent_of b.shape) * n) (lines_width m) ∙ ap (λ n. n * w) (sym (rows_from m))) in
    omega (arith, fits.elements, elements)

width_kept : {b : PlainArray} {list : List ℤ} {shape : List ℕ} {extent : Extent} {widths : List ℕ} (width product : ℕ) → IsMeasured b list shape extent widths → width ≡ min (length widths - 1 + sum widths) (2 ^ 64 - 1) → product ≡ min (width * row_count extent) (2 ^ 64 - 1) → product ≤ 16384 → (width ≡ table_width b.shape list) × (row_count (extent_of b.shape) * table_width b.shape list ≤ 16384)
width_kept {b} {list} {shape} {extent} {widths} width product m measured multiplied small =
    let w : ℕ = table_width b.shape list in
    let rows : ℕ = row_count (extent_of b.shape) in
    let some : 0 < rows = has_rows b.shape m.rank (omega (arith, whole_of m, m.some)) in
    let capped : width ≡ min w (2 ^ 64 - 1) = measured ∙ ap (λ n. min n (2 ^ 64 - 1)) (width_from m) in
    let whole : product ≡ min (min w (2 ^ 64 - 1) * rows) (2 ^ 64 - 1) =
    multiplied ∙ (ap (λ n. min (n * row_count extent) (2 ^ 64 - 1)) capped ∙ ap (λ n. min (min w (2 ^ 64 - 1) * n) (2 ^ 64 - 1)) (rows_from m)) in
    let within : min (min w (2 ^ 64 - 1) * rows) (2 ^ 64 - 1) ≤ 16384 = subst (λ n. n ≤ 16384) whole small in
    (capped ∙ not_saturated w rows some within, small_enough w rows some within)

-- ---- where there is no memory

shape_at : {b : PlainArray} {list : List ℤ} {shape : List ℕ} {extent : Extent} {widths : List ℕ} → IsMeasured b list shape extent widths → row_count (extent_of b.shape) * table_width b.shape list ≤ 16384 → FitsLimits (number_format b).shape
shape_at {b} {list} m small =
    subst (λ (n : ℕ). FitsLimits (take (length b.shape - 1) b.shape ++ n ∷ [])) (sym (lines_width m))
    (fits_at_width b.shape (table_width b.shape list) m.rank m.array.fits (has_rows b.shape m.rank (omega (arith, whole_of m, m.some))) small)

-- a table whose product was found small fits
pub shape_fits : {b : PlainArray} {list : List ℤ} {shape : List ℕ} {extent : Extent} {widths : List ℕ} (width product : ℕ) → IsMeasured b list shape extent widths → width ≡ min (length widths - 1 + sum widths) (2 ^ 64 - 1) → product ≡ min (width * row_count extent) (2 ^ 64 - 1) → product ≤ 16384 → FitsLimits (number_format b).shape
shape_fits width product m measured multiplied small = shape_at m (width_kept width product m measured multiplied small).1

-- how many characters a table has, and whether it is found too large
found_wide : {b : PlainArray} {list : List ℤ} {shape : List ℕ} {extent : Extent} {widths : List ℕ} → IsMeasured b list shape extent widths → row_count extent * (extent.columns - 1 + sum widths) ≡ row_count (extent_of b.shape) * table_width b.shape list
found_wide {b} {list} {shape} {extent} {widths} m =
    let columns : length widths ≡ extent.columns = ap length m.widths_are ∙ length_of_widths list extent.columns (row_count extent) in
    ap (λ n. row_count extent * (n - 1 + sum widths)) (sym columns)
    ∙ (ap (λ n. row_count extent * n) (width_from m) ∙ ap (λ n. n * table_width b.shape list) (rows_from m))

wide_passes : {b : PlainArray} {list : List ℤ} {shape : List ℕ} {extent : Extent} {widths : List ℕ} → IsMeasured b list shape extent widths → 16384 < row_count (extent_of b.shape) * table_width b.shape list → FitsLimits (number_format b).shape → ⊥
wide_passes {b} {list} m large fits =
    let elements = elements_at_width b.shape (width_of (display_lines b)) m.rank ∙ ap (λ n. row_count (extent_of b.shape) * n) (lines_width m) in
    omega (arith, fits.elements, elements)

-- why a table without widths is not made
pub refused_without_widths : {b : PlainArray} {list : List ℤ} {shape : List ℕ} {extent : Extent} {widths : List ℕ} (why : Fail) → IsMeasured b list shape extent widths
    → why ≡ cond (ltb 16384 (row_count extent * (extent.columns - 1 + sum widths))) (Report WsFull) WantOfMemory → IsFormatRefusal (number_format b).shape why × OnWantOfMemory {T = PlainArray} (Err why) (FitsLimits (number_format b).shape)
refused_without_widths {b} {list} {shape} {extent} {widths} why m is =
    let n : ℕ = row_count extent * (extent.columns - 1 + sum widths) in
    let Goal : Fail → Type 0 = λ (f : Fail). IsFormatRefusal (number_format b).shape f × OnWantOfMemory {T = PlainArray} (Err f) (FitsLimits (number_format b).shape) in
    ⊎_elim
    (λ large. let test : cond (ltb 16384 n) (Report WsFull) WantOfMemory ≡ Report WsFull = grind (arith, nat_tests) in
    subst Goal (sym (is ∙ test)) ((refl, wide_passes m (subst (λ k. 16384 < k) (found_wide m) large)), tt))
    (λ small. let test : cond (ltb 16384 n) (Report WsFull) WantOfMemory ≡ WantOfMemory = grind (arith, nat_tests) in
    subst Goal (sym (is ∙ test)) (tt, shape_at m (subst (λ k. k ≤ 16384) (found_wide m) small)))
    (cases_lt 16384 n)

-- ---- the array that is made

pub result_fits : {b : PlainArray} {list : List ℤ} {shape : List ℕ} {extent : Extent} {widths : List ℕ} (width product : ℕ) → IsMeasured b list shape extent widths → width ≡ min (length widths - 1 + sum widths) (2 ^ 64 - 1) → product ≡ min (width * row_count extent) (2 ^ 64 - 1) → product ≤ 16384 → FitsLimits (take (length shape - 1) shape ++ width ∷ [])
result_fits {b} {list} {shape} {extent} {widths} width product m measured multiplied small =
    let kept = width_kept width product m measured multiplied small in
    let fits = fits_at_width b.shape (table_width b.shape list) m.rank m.array.fits (has_rows b.shape m.rank (omega (arith, whole_of m, m.some))) kept.1 in
    subst (λ (s : List ℕ). FitsLimits (take (length s - 1) s ++ width ∷ [])) (sym m.shape_is) (subst (λ (n : ℕ). FitsLimits (take (length b.shape - 1) b.shape ++ n ∷ [])) (sym kept.0) fits)

pub result_whole : {b : PlainArray} {list : List ℤ} {shape : List ℕ} {extent : Extent} {widths : List ℕ} (width product : ℕ) (text : List ℕ) → IsMeasured b list shape extent widths → width ≡ min (length widths - 1 + sum widths) (2 ^ 64 - 1) → product ≡ min (width * row_count extent) (2 ^ 64 - 1) → product ≤ 16384 → text ≡ text_of list extent widths → element_count (take (length shape - 1) shape ++ width ∷ []) ≡ length text
result_whole {b} {list} {shape} {extent} {widths} width product text m measured multiplied small written =
    let kept = width_kept width product m measured multiplied small in
    ap (λ (s : List ℕ). element_count (take (length s - 1) s ++ width ∷ [])) m.shape_is
    ∙ (elements_at_width b.shape width m.rank
    ∙ (ap (λ n. row_count (extent_of b.shape) * n) kept.0
    ∙ sym (ap length (written ∙ text_from m) ∙ text_length b.shape list m.rank (whole_of m))))

pub result_is : {b : PlainArray} {list : List ℤ} {shape : List ℕ} {extent : Extent} {widths : List ℕ} (width product : ℕ) (text : List ℕ) → IsMeasured b list shape extent widths → width ≡ min (length widths - 1 + sum widths) (2 ^ 64 - 1) → product ≡ min (width * row_count extent) (2 ^ 64 - 1) → product ≤ 16384 → text ≡ text_of list extent widths → array_of (take (length shape - 1) shape ++ width ∷ []) text ≡ number_format b
result_is {b} {list} {shape} {extent} {widths} width product text m measured multiplied small written =
    let kept = width_kept width product m measured multiplied small in
    ap (λ (s : List ℕ). array_of (take (length s - 1) s ++ width ∷ []) text) m.shape_is
    ∙ (ap (λ (n : ℕ). array_of (take (length b.shape - 1) b.shape ++ n ∷ []) text) (kept.0 ∙ sym (lines_width m))
    ∙ ap (λ (t : List ℕ). array_of (take (length b.shape - 1) b.shape ++ width_of (display_lines b) ∷ []) t) (written ∙ sym (lines_text m)))
