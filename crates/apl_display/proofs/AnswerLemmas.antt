-- The answer of format: the array as characters, or WS FULL where it is too large.
use Rattle.std.proofs.Common.{◌≡◌, ℕ, ◌+◌, ◌-◌, ◌≤◌, min, Bool, true, false, List, [], ◌∷◌, ◌++◌, Result, Ok, Err, IfOk, OnOk, IfErr, IsOk, length, take, refl, sym, ap, ◌∙◌, subst, arith}
use Rattle.std.proofs.lemmas.List.{length-append, length-take}
use Rattle.apl_arrays.specs.declared.report.Fail.{Fail}
use Rattle.apl_arrays.specs.declared.report.Fail.TheVariants.{Report, WantOfMemory}
use Rattle.apl_arrays.specs.declared.report.Report.TheVariants.{WsFull}
use Rattle.apl_arrays.specs.Array.{PlainArray, PlainItems, numbers, chars, FitsLimits}
use Rattle.apl_arrays.proofs.Shapes.{what_fits_has_no_fault, too_large_by_size}
use Rattle.apl_items.specs.Answers.{Answers, answer_of, faults_of_fault}
use Rattle.apl_items.specs.Places.{OnWantOfMemory}
use Rattle.apl_display.specs.Display.{display_lines}
use Rattle.apl_display.specs.Format.{format_of, formatted, number_format, width_of, IsFormatRefusal}

-- the array as characters has no more axes than an array may have
rank_of_numbers : (shape : List ℕ) (width : ℕ) → length shape ≤ 8 → length (take (length shape - 1) shape ++ width ∷ []) ≤ 8
rank_of_numbers shape width rank = omega (arith, length-append (take (length shape - 1) shape) (width ∷ []), length-take (length shape - 1) shape)

rank_of_formatted : (b : PlainArray) → length b.shape ≤ 8 → length (formatted b).shape ≤ 8
rank_of_formatted b rank = by_kind b.shape b.items rank
  where
    by_kind : (shape : List ℕ) (items : PlainItems) → length shape ≤ 8 → length (formatted (record { shape = shape; items = items })).shape ≤ 8
    by_kind shape (numbers list) small = rank_of_numbers shape (width_of (display_lines (record { shape = shape; items = numbers list }))) small
    by_kind shape (chars list) small = small

pub format_answers : (result : Result PlainArray Fail) (b : PlainArray) → length b.shape ≤ 8 → IfOk result (λ array. array ≡ formatted b)
    → OnOk result (FitsLimits (formatted b).shape) → IfErr result (IsFormatRefusal (formatted b).shape) → Answers result (format_of b)
format_answers (Ok array) b rank value fits refused =
    let none = what_fits_has_no_fault (formatted b).shape fits in
    rw none (ap (λ (a : PlainArray). Ok a) (sym value))
format_answers (Err (Report report)) b rank value fits refused =
    let large = too_large_by_size (formatted b).shape (rank_of_formatted b rank) refused.1 in
    rw large (ap (λ r. Err r) (sym refused.0))
format_answers (Err WantOfMemory) b rank value fits refused = tt

-- what fits has no report
pub format_wants : (result : Result PlainArray Fail) (b : PlainArray) → OnWantOfMemory result (FitsLimits (formatted b).shape) → OnWantOfMemory result (IsOk (format_of b))
format_wants (Ok array) b fits = tt
format_wants (Err (Report report)) b fits = tt
format_wants (Err WantOfMemory) b fits = rw (what_fits_has_no_fault (formatted b).shape fits) refl

-- what a `?` hands out is why a call failed
pub want_exit : {T : Type 0} (r : Result T Fail) (y why : Fail) (fact : Type 0) → r ≡ Err y → y ≡ why → OnWantOfMemory {T = T} (Err why) fact → OnWantOfMemory r fact
want_exit {T} r y why fact exit same holds =
    subst (λ (x : Result T Fail). OnWantOfMemory x fact) (sym exit) (subst (λ (f : Fail). OnWantOfMemory {T = T} (Err f) fact) (sym same) holds)

-- what holds in any case
pub want_after : {T : Type 0} (r : Result T Fail) (fact : Type 0) → fact → OnWantOfMemory r fact
want_after (Ok value) fact holds = tt
want_after (Err (Report report)) fact holds = tt
want_after (Err WantOfMemory) fact holds = holds
