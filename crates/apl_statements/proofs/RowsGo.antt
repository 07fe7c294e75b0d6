-- Rows that are done one after another.
use Rattle.std.proofs.Common.{◌≡◌, ℕ, ◌+◌, true, false, List, [], ◌∷◌, ◌++◌, drop, length, refl, sym, ap, subst, ◌∙◌, arith, append-nil}
use Rattle.std.specs.Prelude.{ℤ, pos, Some, None, All, is_some, replicate, slice_get}
use Rattle.std.proofs.lemmas.List.{length-append}
use Rattle.std.proofs.lemmas.List.Elements.{All-tail}
use Rattle.std.proofs.lemmas.List.Sums.{sum_by-cons}
use Rattle.apl_arrays.specs.Array.{FitsLimits, element_count, number_array}
use Rattle.apl_workspace.specs.Meaning.{is_function_meaning}
use Rattle.apl_workspace.specs.Workspace.{PlainWorkspace, global_in}
use Rattle.apl_meaning.specs.Deeds.{Deed, offer, ask_degree, set_control, ask_control, ask_state, retract}
use Rattle.apl_meaning.specs.Naming.{Naming}
use Rattle.apl_meaning.specs.State.{State, gives}
use Rattle.apl_values.specs.declared.rows.Rows.{Rows}
use Rattle.apl_values.specs.Pending.{act_asked_for, in_rows}
use Rattle.apl_values.specs.Rows.{AreRows, HasTold, MayBeDone, PlainNameRow, RowMayBeDone, asks_act, count_told, rest_of_rows, row_zeros, rows_left}
use Rattle.apl_statements.proofs.Kept.{KeepsFunctions, is_function}
use Rattle.apl_statements.proofs.Opened.{rows_open, rows_tell_zeros}

-- the first of a list, and the others
pub first_and_others : {A : Type 0} (list : List A) (a : A) → slice_get list 0 ≡ Some a → list ≡ a ∷ drop 1 list
first_and_others [] a e = absurd (let no : None ≡ Some a = e in cc)
first_and_others (b ∷ list) a e = let some : Some b ≡ Some a = e in let same : b ≡ a = cc in ap (λ x. x ∷ list) same

pub none_at_first : {A : Type 0} (list : List A) → slice_get list 0 ≡ None → list ≡ []
none_at_first [] e = refl
none_at_first (b ∷ list) e = absurd (let no : Some b ≡ None = e in cc)

-- the numbers of a row that asks no act are zeros
pub all_zeros : (deed : Deed) → replicate (length (row_zeros deed)) (pos 0) ≡ row_zeros deed
all_zeros (offer to) = refl
all_zeros ask_degree = refl
all_zeros (set_control control) = refl
all_zeros ask_control = refl
all_zeros ask_state = refl
all_zeros retract = refl

-- rows of which one more was done
pub rows_stay : (w : PlainWorkspace) (before after : Rows) (row : PlainNameRow) (rows : List PlainNameRow) (told : List ℤ) → AreRows w before → rows_left before ≡ row ∷ rows → HasTold before told after → length told ≡ length (row_zeros row.1) → AreRows w after
rows_stay w before after row rows told are left has many =
    let others : rows_left after ≡ rows = has.rows ∙ ap (drop 1) left in
    let count : element_count before.shape.items ≡ length before.numbers.items + count_told (row ∷ rows) = are.count ∙ ap (λ list. length before.numbers.items + count_told list) left in
    let first : count_told (row ∷ rows) ≡ length (row_zeros row.1) + count_told rows = sum_by-cons (λ (r : PlainNameRow). length (row_zeros r.1)) row rows in
    let numbers : length after.numbers.items ≡ length before.numbers.items + length told = ap length has.numbers ∙ length-append before.numbers.items told in
    let all : element_count after.shape.items ≡ length after.numbers.items + count_told rows = ap element_count has.shape ∙ (let e : element_count before.shape.items ≡ length after.numbers.items + count_told rows = omega (arith, count, numbers, many, first) in e) in
    record {
      may = subst (All (RowMayBeDone w)) (sym others) (All-tail (RowMayBeDone w) row rows (subst (All (RowMayBeDone w)) left are.may));
      fits = subst FitsLimits (sym has.shape) are.fits;
      count = all ∙ ap (λ list. length after.numbers.items + count_told list) (sym others);
    }

-- a row that asks no act
pub row_tells : (before after : Rows) (row : PlainNameRow) (rows : List PlainNameRow) (s : State) → rows_left before ≡ row ∷ rows → HasTold before (replicate (length (row_zeros row.1)) (pos 0)) after → asks_act s.workspace row ≡ false
    → rest_of_rows before.numbers.items (rows_left before) before.shape.items s ≡ rest_of_rows after.numbers.items (rows_left after) after.shape.items s
row_tells before after row rows s left has is =
    ap (λ list. rest_of_rows before.numbers.items list before.shape.items s) left
    ∙ rows_tell_zeros row.1 row.0 before.numbers.items rows before.shape.items s is
    ∙ ap (λ zeros. rest_of_rows (before.numbers.items ++ zeros) rows before.shape.items s) (sym (all_zeros row.1))
    ∙ ap (λ numbers. rest_of_rows numbers rows before.shape.items s) (sym has.numbers)
    ∙ ap (λ list. rest_of_rows after.numbers.items list before.shape.items s) (sym (has.rows ∙ ap (drop 1) left))
    ∙ ap (λ shape. rest_of_rows after.numbers.items (rows_left after) shape s) (sym has.shape)

-- a row that asks one
pub row_opens : (rows : Rows) (row : PlainNameRow) (others : List PlainNameRow) (s : State) → rows_left rows ≡ row ∷ others → asks_act s.workspace row ≡ true
    → rest_of_rows rows.numbers.items (rows_left rows) rows.shape.items s ≡ act_asked_for (in_rows rows.numbers.items (rows_left rows) rows.shape.items) s
row_opens rows row others s left is =
    ap (λ list. rest_of_rows rows.numbers.items list rows.shape.items s) left
    ∙ rows_open row.1 row.0 rows.numbers.items others rows.shape.items s is
    ∙ ap (λ list. act_asked_for (in_rows rows.numbers.items list rows.shape.items) s) (sym left)

-- no row is left
pub rows_end : (rows : Rows) (s : State) → rows_left rows ≡ [] → rest_of_rows rows.numbers.items (rows_left rows) rows.shape.items s ≡ gives (Some (number_array rows.shape.items rows.numbers.items)) s
rows_end rows s left =
    ap (λ list. rest_of_rows rows.numbers.items list rows.shape.items s) left ∙ ap (λ numbers. gives (Some (number_array rows.shape.items numbers)) s) (append-nil rows.numbers.items)

pub all_told : (w : PlainWorkspace) (rows : Rows) → AreRows w rows → rows_left rows ≡ [] → element_count rows.shape.items ≡ length rows.numbers.items
all_told w rows are left = let count : element_count rows.shape.items ≡ length rows.numbers.items + count_told [] = are.count ∙ ap (λ list. length rows.numbers.items + count_told list) left in omega (arith, count)

-- ---- rows on another workspace

no_function_there : (w v : PlainWorkspace) (name : List ℕ) → KeepsFunctions w v → is_function_meaning (global_in w name) ≡ false → is_function_meaning (global_in v name) ≡ false
no_function_there w v name keeps is = is_function (global_in v name) ∙ ap is_some (keeps.functions name) ∙ sym (is_function (global_in w name)) ∙ is

may_be_done : (w v : PlainWorkspace) (deed : Deed) (names : Naming) → KeepsFunctions w v → MayBeDone w deed names → MayBeDone v deed names
may_be_done w v (offer to) names keeps may = (may.0, no_function_there w v names.local keeps may.1)
may_be_done w v ask_degree names keeps may = tt
may_be_done w v (set_control control) names keeps may = tt
may_be_done w v ask_control names keeps may = tt
may_be_done w v ask_state names keeps may = tt
may_be_done w v retract names keeps may = tt

all_may_be_done : (w v : PlainWorkspace) (rows : List PlainNameRow) → KeepsFunctions w v → All (RowMayBeDone w) rows → All (RowMayBeDone v) rows
all_may_be_done w v rows keeps are k d lt = may_be_done w v _ _ keeps (are k d lt)

pub rows_kept : (w v : PlainWorkspace) (rows : Rows) → KeepsFunctions w v → AreRows w rows → AreRows v rows
rows_kept w v rows keeps are = record { may = all_may_be_done w v (rows_left rows) keeps are.may; fits = are.fits; count = are.count }
