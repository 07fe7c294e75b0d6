-- Rows of names by their places.
use Rattle.std.proofs.Common.{◌≡◌, ℕ, zero, suc, min, ◌+◌, ◌-◌, ◌<◌, Bool, true, false, List, [], ◌∷◌, ◌++◌, length, take, drop, get_or, refl, sym, ap, ◌∙◌, arith, rules}
use Rattle.std.specs.Prelude.{◌||◌, Option, Some, None, if◌then◌else◌, is_none, is_some, map, option_map, slice_index_or}
use Rattle.std.proofs.lemmas.Bool.{false≢true}
use Rattle.std.specs.List.{cons_option, filter_map, list_any, range_with_len}
use Rattle.std.specs.Option.{option_to_list}
use Rattle.std.proofs.lemmas.List.{length-map, places, same_lists, take_all, take_more}
use Rattle.std.proofs.lemmas.List.FromFn.{length-range_with_len}
use Rattle.std.proofs.lemmas.List.Folds.{list_any-append, list_any_at}
use Rattle.std.proofs.lemmas.List.Elements.{filter_map-append}
use Rattle.apl_arrays.specs.Array.{PlainArray, chars_in}
use Rattle.apl_items.specs.Places as by_place
use Rattle.apl_meaning.specs.Naming.{Naming, has_rows, naming_count, naming_in, namings_of, row_at, rows_of}

row_from : (f : ℕ → List ℕ) (first count row : ℕ) → row < count → get_or (map f (range_with_len first count)) row [] ≡ f (first + row)
row_from f first zero row lt = absurd (omega arith)
row_from f first (suc count) zero lt = ap f (let same : first ≡ first + 0 = omega arith in same)
row_from f first (suc count) (suc row) lt = row_from f (first + 1) count row (omega arith) ∙ ap f (let same : (first + 1) + row ≡ first + suc row = omega arith in same)

-- a row of a matrix by its place
pub row_is : (n : PlainArray) (row : ℕ) → has_rows n ≡ true → row < naming_count n → get_or (rows_of n) row [] ≡ row_at (chars_in n.items) (slice_index_or n.shape 1 0) row
row_is n row has lt =
    ap (λ (b : Bool). get_or (if b then map (row_at (chars_in n.items) (slice_index_or n.shape 1 0)) (by_place.places (naming_count n)) else chars_in n.items ∷ []) row []) has
    ∙ row_from (row_at (chars_in n.items) (slice_index_or n.shape 1 0)) 0 (naming_count n) row lt
    ∙ ap (row_at (chars_in n.items) (slice_index_or n.shape 1 0)) (let same : 0 + row ≡ row = omega arith in same)

-- the one row of a scalar or a vector
pub lone_row : (n : PlainArray) → has_rows n ≡ false → rows_of n ≡ chars_in n.items ∷ []
lone_row n none = ap (λ (b : Bool). if b then map (row_at (chars_in n.items) (slice_index_or n.shape 1 0)) (by_place.places (naming_count n)) else chars_in n.items ∷ []) none

-- the glyphs of a row, cut out of all
pub cut_row : (g : List ℕ) (start columns a b : ℕ) → a ≡ min (length g) start → b ≡ min (length (take (length g - a) (drop a g))) columns → take b (take (length g - a) (drop a g)) ≡ take columns (drop start g)
cut_row g start columns a b ea eb = same_lists _ _ (search (rules, places)) (λ k d h. grind (arith, places))

count_where : (n : PlainArray) (b : Bool) → has_rows n ≡ b → length (rows_of n) ≡ naming_count n
count_where n true has =
    ap (λ (b : Bool). length (if b then map (row_at (chars_in n.items) (slice_index_or n.shape 1 0)) (by_place.places (naming_count n)) else chars_in n.items ∷ [])) has
    ∙ length-map (by_place.places (naming_count n)) (row_at (chars_in n.items) (slice_index_or n.shape 1 0)) ∙ length-range_with_len 0 (naming_count n)
count_where n false none = ap length (lone_row n none) ∙ ap (λ (b : Bool). if b then slice_index_or n.shape 0 0 else 1) (sym none)

-- there are as many rows as are counted
pub rows_count : (n : PlainArray) → length (rows_of n) ≡ naming_count n
rows_count n = count_where n (has_rows n) refl

lone : (names : Option Naming) → cons_option names [] ≡ option_to_list names
lone None = refl
lone (Some names) = refl

-- the names of one row more
pub namings_more : (n : PlainArray) (row : ℕ) → row < naming_count n → filter_map naming_in (take (row + 1) (rows_of n)) ≡ filter_map naming_in (take row (rows_of n)) ++ option_to_list (naming_in (get_or (rows_of n) row []))
namings_more n row lt =
    ap (filter_map naming_in) (take_more (rows_of n) row [] (rw (rows_count n) lt))
    ∙ filter_map-append naming_in (take row (rows_of n)) (get_or (rows_of n) row [] ∷ [])
    ∙ ap (λ (more : List Naming). filter_map naming_in (take row (rows_of n)) ++ more) (lone (naming_in (get_or (rows_of n) row [])))

-- the names of all rows
pub namings_all : (n : PlainArray) → filter_map naming_in (take (naming_count n) (rows_of n)) ≡ namings_of n
namings_all n = ap (filter_map naming_in) (take_all (naming_count n) (rows_of n) (let same = rows_count n in omega arith))

-- whether a row holds no names
abbrev pub is_unnamed : List ℕ → Bool
is_unnamed row = is_none (naming_in row)

-- all rows so far hold names, and one more does
pub named_more : (n : PlainArray) (row : ℕ) → row < naming_count n → list_any is_unnamed (take row (rows_of n)) ≡ false → is_unnamed (get_or (rows_of n) row []) ≡ false → list_any is_unnamed (take (row + 1) (rows_of n)) ≡ false
named_more n row lt before here =
    ap (list_any is_unnamed) (take_more (rows_of n) row [] (rw (rows_count n) lt))
    ∙ list_any-append is_unnamed (take row (rows_of n)) (get_or (rows_of n) row [] ∷ [])
    ∙ ap (λ (b : Bool). b || (is_unnamed (get_or (rows_of n) row []) || false)) before ∙ ap (λ (b : Bool). b || false) here

-- a row that holds none
pub one_unnamed : (n : PlainArray) (row : ℕ) → row < naming_count n → is_unnamed (get_or (rows_of n) row []) ≡ true → list_any is_unnamed (rows_of n) ≡ true
one_unnamed n row lt here = list_any_at is_unnamed (rows_of n) row [] (rw (rows_count n) lt) here

-- all rows hold names
pub all_named : (n : PlainArray) → list_any is_unnamed (take (naming_count n) (rows_of n)) ≡ false → list_any is_unnamed (rows_of n) ≡ false
all_named n e = ap (list_any is_unnamed) (sym (take_all (naming_count n) (rows_of n) (let same = rows_count n in omega arith))) ∙ e

-- where none was found, a row holds no names
pub no_names : {A B : Type 0} (f : A → B) (found : Option A) (names : Option B) → is_some found ≡ false → option_map f found ≡ names → is_none names ≡ true
no_names f None names none is = ap is_none (sym is)
no_names f (Some a) names none is = absurd (false≢true (sym none))
