-- Names that are tested row by row, and what is told where there is no memory for them.
use Rattle.std.proofs.Common.{◌≡◌, ℕ, ◌+◌, ◌<◌, Bool, true, false, List, [], ◌∷◌, take, get_or, refl, sym, ap, subst, ◌∙◌, arith}
use Rattle.std.specs.Prelude.{◌||◌, Option, Some, None, Err, IfSome, map}
use Rattle.std.specs.List.{cons_option, filter_map, list_any}
use Rattle.std.specs.Option.{option_to_list}
use Rattle.std.proofs.lemmas.List.{take_all, take_more}
use Rattle.std.proofs.lemmas.List.Folds.{list_any-append, list_any_at}
use Rattle.apl_arrays.specs.Array.{PlainArray}
use Rattle.apl_arrays.specs.declared.report.Fail.{Fail}
use Rattle.apl_arrays.specs.declared.report.Fail.TheVariants as fail
use Rattle.apl_arrays.specs.declared.report.Report.{Report}
use Rattle.apl_items.specs.Answers.{first_report}
use Rattle.apl_items.specs.Places.{places}
use Rattle.apl_workspace.specs.Workspace.{PlainWorkspace}
use Rattle.apl_meaning.specs.Deeds.{Deed, offer}
use Rattle.apl_meaning.specs.Naming.{naming_count, naming_in, namings_of, rows_of}
use Rattle.apl_meaning.specs.Sharing.{addressee_at, cannot_be_offered, offer_faults, offers}
use Rattle.apl_values.proofs.NamingSteps.{rows_count}
use Rattle.apl_statements.specs.Interpreter.{PlainInterpreter}
use Rattle.apl_statements.specs.Wants.{NoReportIsDue}
use Rattle.apl_acts.specs.Asking.{Asks}
use Rattle.apl_acts.specs.Faults.{is_not_offered}
use Rattle.apl_acts.proofs.Tested.{asks_refused, free_there}

-- ---- tests

or_mid : (a r : Bool) → (a || r) ≡ ((a || false) || r)
or_mid true r = refl
or_mid false r = refl

one_or_none : {B : Type 0} (test : B → Bool) (found : Option B) (others : List B) (rest : Bool) → list_any test others ≡ rest → list_any test (cons_option found others) ≡ (list_any test (option_to_list found) || rest)
one_or_none test None others rest e = e
one_or_none test (Some b) others rest e = ap (λ (r : Bool). test b || r) e ∙ or_mid (test b) rest

-- what is found in elements is tested as each element's own
pub any_filtered : {A B : Type 0} (test : B → Bool) (f : A → Option B) (list : List A) → list_any test (filter_map f list) ≡ list_any (λ a. list_any test (option_to_list (f a))) list
any_filtered test f [] = refl
any_filtered test f (a ∷ list) = one_or_none test (f a) (filter_map f list) (list_any (λ a. list_any test (option_to_list (f a))) list) (any_filtered test f list)

-- ---- rows

-- the rows so far may be offered, and one more may
pub tested_more : (w : PlainWorkspace) (n : PlainArray) (row : ℕ) → row < naming_count n → list_any (is_not_offered w) (take row (rows_of n)) ≡ false → is_not_offered w (get_or (rows_of n) row []) ≡ false → list_any (is_not_offered w) (take (row + 1) (rows_of n)) ≡ false
tested_more w n row lt before here =
    ap (list_any (is_not_offered w)) (take_more (rows_of n) row [] (rw (rows_count n) lt))
    ∙ list_any-append (is_not_offered w) (take row (rows_of n)) (get_or (rows_of n) row [] ∷ [])
    ∙ ap (λ (b : Bool). b || (is_not_offered w (get_or (rows_of n) row []) || false)) before ∙ ap (λ (b : Bool). b || false) here

-- a row that may not be
pub one_passes : (w : PlainWorkspace) (n : PlainArray) (row : ℕ) → row < naming_count n → is_not_offered w (get_or (rows_of n) row []) ≡ true → list_any (cannot_be_offered w) (namings_of n) ≡ true
one_passes w n row lt here = any_filtered (cannot_be_offered w) naming_in (rows_of n) ∙ list_any_at (is_not_offered w) (rows_of n) row [] (rw (rows_count n) lt) here

-- all rows may be
pub none_of_rows : (w : PlainWorkspace) (n : PlainArray) (row : ℕ) → row ≡ naming_count n → list_any (is_not_offered w) (take row (rows_of n)) ≡ false → list_any (cannot_be_offered w) (namings_of n) ≡ false
none_of_rows w n row all e =
    any_filtered (cannot_be_offered w) naming_in (rows_of n)
    ∙ ap (list_any (is_not_offered w)) (sym (take_all row (rows_of n) (let same = rows_count n in omega (arith, same, all)))) ∙ e

-- ---- nothing was offered

-- what is to be done for the rows of an offer
abbrev pub offer_deeds : PlainArray → PlainArray → List Deed
offer_deeds p n = map (λ row. offer (addressee_at p row)) (places (naming_count n))

-- where nothing is wrong no report is due
pub offer_free : (m : PlainInterpreter) (p n : PlainArray) → first_report (offer_faults m.workspace p n) ≡ None → NoReportIsDue m (offers p n)
offer_free m p n none = free_there m (offers p n) (offer_faults m.workspace p n) n [] (offer_deeds p n) (λ asked count taken further. refl) none

not_offered_by : (m : PlainInterpreter) (p n : PlainArray) (why : Fail) (found : Option Report) → first_report (offer_faults m.workspace p n) ≡ found → IfSome found (λ report. why ≡ fail.Report report) → (found ≡ None → why ≡ fail.WantOfMemory) → Asks m (offers p n) (Err why)
not_offered_by m p n why None is some none = subst (λ (f : Fail). Asks m (offers p n) (Err f)) (sym (none refl)) (offer_free m p n is)
not_offered_by m p n why (Some report) is some none =
    subst (λ (f : Fail). Asks m (offers p n) (Err f)) (sym some)
    (asks_refused m (offers p n) (offer_faults m.workspace p n) n [] (offer_deeds p n) report (λ asked count taken further. refl) is)

-- an offer ends the line by its report, or memory ran out
pub not_offered : (m : PlainInterpreter) (p n : PlainArray) (why : Fail) → IfSome (first_report (offer_faults m.workspace p n)) (λ report. why ≡ fail.Report report) → (first_report (offer_faults m.workspace p n) ≡ None → why ≡ fail.WantOfMemory)
    → Asks m (offers p n) (Err why)
not_offered m p n why some none = not_offered_by m p n why (first_report (offer_faults m.workspace p n)) refl some none
