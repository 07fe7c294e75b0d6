-- The widths of columns, one row more at a time.
use Rattle.std.proofs.Common.{◌≡◌, ℕ, zero, suc, ◌+◌, ◌-◌, ◌*◌, ◌^◌, ◌<◌, ◌≤◌, max, min, ℤ, pos, List, length, get_or, drop, map, replicate, fold, sum, sym, ap, ◌∙◌, subst, ⊎_elim, arith, add-one}
use Rattle.std.proofs.lemmas.Bool.{cases_lt}
use Rattle.std.proofs.lemmas.List.{get_or-replicate, length-replicate, length-drop, length-take-le, get_or-take, get_or-drop}
use Rattle.std.proofs.lemmas.List.FromFn.{map-range_with_len_more, length-map-range_with_len, get_or-map-range_with_len, fill_by_all}
use Rattle.std.proofs.lemmas.List.Sums.{fold_push}
use Rattle.std.proofs.lemmas.Nat.{row_fits}
use Rattle.std.specs.List.{range_with_len}
use Rattle.apl_display.proofs.TextLemmas.{length-aligned}
use Rattle.apl_display.specs.Matrices.{column_width, column_widths, row_of, aligned}
use Rattle.line_text.specs.Number.{number_width}

-- the greatest of one number more
greatest_more : (f : ℕ → ℕ) (n : ℕ) → fold max 0 (map f (range_with_len 0 (n + 1))) ≡ max (fold max 0 (map f (range_with_len 0 n))) (f n)
greatest_more f n =
    ap (fold max 0) (map-range_with_len_more f 0 n n (omega arith)) ∙ fold_push max 0 (map f (range_with_len 0 n)) (f n)

-- an item of a row
pub get_or-row_of : {A : Type 0} (items : List A) (columns row column : ℕ) (d : A) → column < columns → get_or (row_of items columns row) column d ≡ get_or items (row * columns + column) d
get_or-row_of items columns row column d within =
    get_or-take columns (drop (row * columns) items) column d within ∙ get_or-drop (row * columns) items column d

pub no_row : (list : List ℤ) (columns : ℕ) → replicate columns 0 ≡ column_widths list columns 0
no_row list columns =
    fill_by_all (column_width list columns 0) (replicate columns 0) columns 0 (length-replicate columns 0) (λ k within. get_or-replicate columns k 0 0 within)

pub length-row_of : {A : Type 0} (items : List A) (columns rows row : ℕ) → rows * columns ≤ length items → row < rows → length (row_of items columns row) ≡ columns
length-row_of items columns rows row whole below =
    let rest : length (drop (row * columns) items) ≡ length items - row * columns = length-drop (row * columns) items in
    length-take-le columns (drop (row * columns) items) (omega (arith, row_fits row columns rows columns below (omega arith)))

pub one_row_more : (list taken : List ℤ) (columns rows row : ℕ) (old lent new : List ℕ) → rows * columns ≤ length list → row < rows → taken ≡ row_of list columns row → old ≡ column_widths list columns row → lent ≡ old → length new ≡ columns → ((k : ℕ) → k < length taken → get_or new k 0 ≡ max (get_or lent k 0) (number_width (get_or taken k (pos 0)))) → new ≡ column_widths list columns (row + 1)
one_row_more list taken columns rows row old lent new whole below read before same long each =
    let full : length taken ≡ columns = ap length read ∙ length-row_of list columns rows row whole below in
    fill_by_all (column_width list columns (row + 1)) new columns 0 long
    (λ k within.
    let width_before : get_or lent k 0 ≡ column_width list columns row k = ap (λ xs. get_or xs k 0) (same ∙ before) ∙ get_or-map-range_with_len (column_width list columns row) 0 columns k k 0 within (omega arith) in
    let number : number_width (get_or taken k (pos 0)) ≡ number_width (get_or list (row * columns + k) (pos 0)) = ap (λ xs. number_width (get_or xs k (pos 0))) read ∙ ap number_width (get_or-row_of list columns row k (pos 0) within) in
    each k (omega arith) ∙ (ap (λ w. max w (number_width (get_or taken k (pos 0)))) width_before
    ∙ (ap (λ w. max (column_width list columns row k) w) number
    ∙ sym (greatest_more (λ r. number_width (get_or list (r * columns + k) (pos 0))) row))))

-- there is a width for each column
pub length_of_widths : (list : List ℤ) (columns rows : ℕ) → length (column_widths list columns rows) ≡ columns
length_of_widths list columns rows = length-map-range_with_len (column_width list columns rows) 0 columns

-- none is greater than the greatest
greatest_bounds : (f : ℕ → ℕ) (n k : ℕ) → k < n → f k ≤ fold max 0 (map f (range_with_len 0 n))
greatest_bounds f zero k below = absurd (omega arith)
greatest_bounds f (suc n) k below =
    let greatest : ℕ → ℕ = λ m. fold max 0 (map f (range_with_len 0 m)) in
    let more : greatest (n + 1) ≡ max (greatest n) (f n) = greatest_more f n in
    let bound : f k ≤ max (greatest n) (f n) =
    ⊎_elim (λ earlier. let h : f k ≤ greatest n = greatest_bounds f n k earlier in omega arith)
    (λ last. let same : f k ≡ f n = ap f (omega arith) in omega arith) (cases_lt k n) in
    subst (λ m. f k ≤ greatest m) (add-one n) (omega arith)

-- a column is wide enough for each of its numbers
pub number_fits : (list : List ℤ) (columns rows row column : ℕ) → row < rows → column < columns → number_width (get_or (row_of list columns row) column (pos 0)) ≤ get_or (column_widths list columns rows) column 0
number_fits list columns rows row column below within =
    let width : get_or (column_widths list columns rows) column 0 ≡ column_width list columns rows column = get_or-map-range_with_len (column_width list columns rows) 0 columns column column 0 within (omega arith) in
    let number : number_width (get_or (row_of list columns row) column (pos 0)) ≡ number_width (get_or list (row * columns + column) (pos 0)) = ap number_width (get_or-row_of list columns row column (pos 0) within) in
    let bound : number_width (get_or list (row * columns + column) (pos 0)) ≤ column_width list columns rows column = greatest_bounds (λ r. number_width (get_or list (r * columns + column) (pos 0))) rows row below in
    omega arith

-- all rows are equally wide
pub length_of_row : (list : List ℤ) (columns rows row : ℕ) → rows * columns ≤ length list → row < rows → length (aligned (column_widths list columns rows) (row_of list columns row)) ≡ length (column_widths list columns rows) - 1 + sum (column_widths list columns rows)
length_of_row list columns rows row whole below =
    let widths = length_of_widths list columns rows in
    let numbers = length-row_of list columns rows row whole below in
    length-aligned (column_widths list columns rows) (row_of list columns row) (widths ∙ sym numbers)
    (λ k within. number_fits list columns rows row k below (omega arith))

-- a column, one number more
pub one_number_more : (list taken : List ℤ) (columns row column width more : ℕ) → column < columns → taken ≡ row_of list columns row → width ≡ column_width list columns row column → more ≡ max (number_width (get_or taken column (pos 0))) width
    → more ≡ column_width list columns (row + 1) column
one_number_more list taken columns row column width more within read so_far wider =
    let number : number_width (get_or taken column (pos 0)) ≡ number_width (get_or list (row * columns + column) (pos 0)) = ap (λ xs. number_width (get_or xs column (pos 0))) read ∙ ap number_width (get_or-row_of list columns row column (pos 0) within) in
    let greatest = greatest_more (λ r. number_width (get_or list (r * columns + column) (pos 0))) row in
    omega (arith, wider, so_far, number, greatest)

-- a line of columns, one column more
pub one_column_more : (f : ℕ → ℕ) (columns n width more : ℕ) → width ≡ min (columns - 1 + sum (map f (range_with_len 0 n))) (2 ^ 64 - 1) → more ≡ min (width + f n) (2 ^ 64 - 1)
    → more ≡ min (columns - 1 + sum (map f (range_with_len 0 (n + 1)))) (2 ^ 64 - 1)
one_column_more f columns n width more so_far wider =
    let next : sum (map f (range_with_len 0 (n + 1))) ≡ sum (map f (range_with_len 0 n)) + f n = ap sum (map-range_with_len_more f 0 n n (omega arith)) ∙ fold_push ◌+◌ 0 (map f (range_with_len 0 n)) (f n) in
    omega (arith, so_far, wider, next)
