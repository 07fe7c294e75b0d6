-- Rows of names that are tested before the first act, and done where nothing is wrong.
use Rattle.std.proofs.Common.{◌≡◌, ℕ, zero, suc, ◌+◌, ◌*◌, ◌<◌, Bool, true, false, List, [], ◌∷◌, length, refl, sym, ap, subst, ◌∙◌, arith}
use Rattle.std.specs.Prelude.{◌||◌, Option, Some, None, Result, Ok, Err, IfErr, IfOk, All, is_none, map, slice_index_or, if◌then◌else◌}
use Rattle.std.specs.List.{cons_option, filter_map, list_any, range_with_len, zip}
use Rattle.std.proofs.lemmas.Bool.{false≢true, or_parts}
use Rattle.std.proofs.Math.Nat.{suc-mul}
use Rattle.std.proofs.lemmas.List.Elements.{All-cons, All-head, All-map, All-tail}
use Rattle.std.proofs.lemmas.List.Sums.{sum_by-cons}
use Rattle.apl_arrays.specs.Array.{PlainArray, element_count, number_array}
use Rattle.apl_arrays.specs.declared.report.Fail.{Fail}
use Rattle.apl_arrays.specs.declared.report.Fail.TheVariants as fail
use Rattle.apl_arrays.specs.declared.report.Report.{Report}
use Rattle.apl_arrays.specs.declared.report.Report.TheVariants.{Domain, Index, Length, Rank, WsFull}
use Rattle.apl_items.specs.Answers.{Faults, first_report}
use Rattle.apl_items.specs.Places.{places}
use Rattle.apl_items.proofs.ShapeLemmas.{element_count-cons}
use Rattle.apl_workspace.specs.Workspace.{PlainWorkspace}
use Rattle.sv_events.specs.Answer.{PlainAnswer}
use Rattle.sv_events.specs.declared.event.Act.{Act}
use Rattle.apl_meaning.specs.Deeds.{Deed, offer, ask_degree, set_control, ask_control, ask_state, retract, done_for_all}
use Rattle.apl_meaning.specs.Expressions.{Found, valued}
use Rattle.apl_meaning.specs.Naming.{Naming, has_rows, naming_count, naming_in, namings_of, result_shape, rows_of}
use Rattle.apl_meaning.specs.Sharing.{rows_outcome, unless_wrong}
use Rattle.apl_meaning.specs.State.{State, Outcome, gives, refuses, asks, and_then}
use Rattle.apl_values.specs.Rows.{MayBeDone, PlainNameRow, RowMayBeDone, count_told, is_offer, rest_of_rows, row_zeros}
use Rattle.apl_values.proofs.NamingSteps.{is_unnamed, rows_count}
use Rattle.apl_statements.specs.Interpreter.{PlainInterpreter, state_at}
use Rattle.apl_statements.specs.Wants.{IsNoReport, NoReportIsDue}
use Rattle.apl_statements.proofs.Steps.{grouped}
use Rattle.apl_statements.proofs.Wants.{rows_no_report}
use Rattle.apl_acts.specs.declared.asking.Asking.{Asking}
use Rattle.apl_acts.specs.Asking.{Asks, asked_part}

-- ---- nothing is wrong

-- none of the faults that count before an index
pub record NoFaults (faults : Faults) : Type 0 where
  pub rank : faults.bad_rank ≡ false
  pub length : faults.bad_length ≡ false
  pub domain : faults.bad_domain ≡ false
  pub size : faults.too_large ≡ false

fault_by : (a b c d e : Bool) → (if a then Some Rank else if b then Some Length else if c then Some Domain else if d then Some Index else if e then Some WsFull else None) ≡ None
    → (a ≡ false) × (b ≡ false) × (c ≡ false) × (e ≡ false)
fault_by true b c d e none = absurd (let no : Some Rank ≡ None = none in cc)
fault_by false true c d e none = absurd (let no : Some Length ≡ None = none in cc)
fault_by false false true d e none = absurd (let no : Some Domain ≡ None = none in cc)
fault_by false false false true e none = absurd (let no : Some Index ≡ None = none in cc)
fault_by false false false false true none = absurd (let no : Some WsFull ≡ None = none in cc)
fault_by false false false false false none = (refl, refl, refl, refl)

pub nothing_wrong : (faults : Faults) → first_report faults ≡ None → NoFaults faults
nothing_wrong faults none =
    let all = fault_by faults.bad_rank faults.bad_length faults.bad_domain faults.bad_index faults.too_large none in
    record { rank = all.0; length = all.1; domain = all.2; size = all.3 }

-- no element passes a test that none passes
pub none_passes : {A : Type 0} (test : A → Bool) (list : List A) → list_any test list ≡ false → All (λ a. test a ≡ false) list
none_passes test [] none k d lt = absurd (omega arith)
none_passes test (a ∷ list) none zero d lt = (or_parts (test a) (list_any test list) none).0
none_passes test (a ∷ list) none (suc k) d lt = none_passes test list (or_parts (test a) (list_any test list) none).1 k d (omega arith)

-- a test of what elements become
pub any_mapped : {A B : Type 0} (test : B → Bool) (f : A → B) (list : List A) → list_any (λ a. test (f a)) list ≡ list_any test (map f list)
any_mapped test f [] = refl
any_mapped test f (a ∷ list) = ap (λ (b : Bool). test (f a) || b) (any_mapped test f list)

-- ---- as many names as rows

found_one : {A B : Type 0} (f : A → Option B) (list : List A) (found : Option B) → (list_any (λ a. is_none (f a)) list ≡ false → length (filter_map f list) ≡ length list) → (is_none found || list_any (λ a. is_none (f a)) list) ≡ false
    → length (cons_option found (filter_map f list)) ≡ suc (length list)
found_one f list None others none = absurd (false≢true (sym none))
found_one f list (Some b) others none = ap suc (others none)

found_for_each : {A B : Type 0} (f : A → Option B) (list : List A) → list_any (λ a. is_none (f a)) list ≡ false → length (filter_map f list) ≡ length list
found_for_each f [] none = refl
found_for_each f (a ∷ list) none = found_one f list (f a) (found_for_each f list) none

-- where each row holds names, there are as many as rows
pub named_count : (n : PlainArray) → list_any is_unnamed (rows_of n) ≡ false → length (namings_of n) ≡ naming_count n
named_count n none = found_for_each naming_in (rows_of n) none ∙ rows_count n

-- ---- what is done for each

alike_from : {A B : Type 0} (b : B) (list : List A) (first count : ℕ) → length list ≡ count → zip list (map (λ row. b) (range_with_len first count)) ≡ map (λ a. (a, b)) list
alike_from b [] first count many = refl
alike_from b (a ∷ list) first zero many = absurd (let no : suc (length list) ≡ 0 = many in omega arith)
alike_from b (a ∷ list) first (suc count) many = ap (λ rest. (a, b) ∷ rest) (alike_from b list (first + 1) count (omega arith))

-- the same is done for each name
pub alike : {A B : Type 0} (b : B) (list : List A) (count : ℕ) → length list ≡ count → zip list (map (λ row. b) (places count)) ≡ map (λ a. (a, b)) list
alike b list count many = alike_from b list 0 count many

-- ---- how many numbers rows tell

told_from : (f : ℕ → Deed) (width : ℕ) (list : List Naming) (first : ℕ) → ((row : ℕ) → length (row_zeros (f row)) ≡ width) → count_told (zip list (map f (range_with_len first (length list)))) ≡ length list * width
told_from f width [] first each = let none : 0 ≡ 0 * width = omega arith in none
told_from f width (names ∷ list) first each =
    let more : count_told ((names, f first) ∷ zip list (map f (range_with_len (first + 1) (length list)))) ≡ length (row_zeros (f first)) + count_told (zip list (map f (range_with_len (first + 1) (length list)))) =
    sum_by-cons (λ (r : PlainNameRow). length (row_zeros r.1)) (names, f first) (zip list (map f (range_with_len (first + 1) (length list)))) in
    let rest : count_told (zip list (map f (range_with_len (first + 1) (length list)))) ≡ length list * width = told_from f width list (first + 1) each in
    let one : length (row_zeros (f first)) ≡ width = each first in
    let times : suc (length list) * width ≡ length list * width + width = suc-mul (length list) width in
    let all : count_told ((names, f first) ∷ zip list (map f (range_with_len (first + 1) (length list)))) ≡ suc (length list) * width = omega (arith, more, rest, one, times) in
    all

-- names, for each of which so many numbers are told
pub told_for_each : (f : ℕ → Deed) (width : ℕ) (list : List Naming) → ((row : ℕ) → length (row_zeros (f row)) ≡ width) → count_told (zip list (map f (places (length list)))) ≡ length list * width
told_for_each f width list each = told_from f width list 0 each

-- the shape of the result has room for them
pub room_for_each : (n : PlainArray) (each : List ℕ) (width : ℕ) → element_count each ≡ width → element_count (result_shape n each) ≡ naming_count n * width
room_for_each n each width is = by (has_rows n)
  where
    by : (b : Bool) → element_count (if b then (if b then slice_index_or n.shape 0 0 else 1) ∷ each else each) ≡ (if b then slice_index_or n.shape 0 0 else 1) * width
    by true = element_count-cons (slice_index_or n.shape 0 0) each ∙ ap (λ (k : ℕ). slice_index_or n.shape 0 0 * k) is
    by false = is ∙ (let one : width ≡ 1 * width = omega arith in one)

-- ---- rows that are refused, and rows that are done

pub rows_done : (faults : Faults) (n : PlainArray) (each : List ℕ) (deeds : List Deed) (rows : List PlainNameRow) (s : State) → first_report faults ≡ None → zip (namings_of n) deeds ≡ rows
    → valued (rows_outcome faults n each deeds s) ≡ rest_of_rows [] rows (result_shape n each) s
rows_done faults n each deeds rows s none are =
    ap (λ (r : Option Report). valued (unless_wrong r (λ s. and_then (done_for_all (zip (namings_of n) deeds) s) (λ numbers s. gives (number_array (result_shape n each) numbers) s)) s)) none
    ∙ grouped (done_for_all (zip (namings_of n) deeds) s) (λ numbers t. gives (number_array (result_shape n each) numbers) t) (λ v t. gives (Some v) t)
    ∙ ap (λ (list : List PlainNameRow). rest_of_rows [] list (result_shape n each) s) are

-- what is found is a report where the array is
pub from_valued : (o : Outcome PlainArray) → IsNoReport (valued o) → IsNoReport o
from_valued (gives value s) free = tt
from_valued (refuses report s) free = free
from_valued (asks act s) free = tt

-- where nothing is wrong, rows that are done give no report as long as no answer comes
rows_free : (faults : Faults) (n : PlainArray) (each : List ℕ) (deeds : List Deed) (s : State) → first_report faults ≡ None → s.answers ≡ [] → IsNoReport (rows_outcome faults n each deeds s)
rows_free faults n each deeds s none empty =
    from_valued (rows_outcome faults n each deeds s)
    (subst (λ (o : Outcome Found). IsNoReport o) (sym (rows_done faults n each deeds (zip (namings_of n) deeds) s none refl)) (rows_no_report [] (zip (namings_of n) deeds) (result_shape n each) s empty))

-- what is tested and done, at each place where an interpreter is
abbrev pub IsTested : PlainInterpreter → (State → Outcome PlainArray) → Faults → PlainArray → List ℕ → List Deed → Type 0
IsTested m part faults n each deeds =
    (asked : List Act) (count : ℕ) (taken : List (List ℕ)) (further : List PlainAnswer) → part (state_at m asked count taken further) ≡ rows_outcome faults n each deeds (state_at m asked count taken further)

-- where nothing is wrong no report is due
pub free_there : (m : PlainInterpreter) (part : State → Outcome PlainArray) (faults : Faults) (n : PlainArray) (each : List ℕ) (deeds : List Deed) → IsTested m part faults n each deeds → first_report faults ≡ None → NoReportIsDue m part
free_there m part faults n each deeds tested none asked count taken =
    subst (λ (o : Outcome PlainArray). IsNoReport o) (sym (tested asked count taken [])) (rows_free faults n each deeds (state_at m asked count taken []) none refl)

-- ---- what is asked

-- something is wrong
pub asks_refused : (m : PlainInterpreter) (part : State → Outcome PlainArray) (faults : Faults) (n : PlainArray) (each : List ℕ) (deeds : List Deed) (why : Report) → IsTested m part faults n each deeds → first_report faults ≡ Some why → Asks m part (Err (fail.Report why))
asks_refused m part faults n each deeds why tested is = λ acts count taken further.
    tested acts count taken further
    ∙ ap (λ (r : Option Report). unless_wrong r (λ s. and_then (done_for_all (zip (namings_of n) deeds) s) (λ numbers s. gives (number_array (result_shape n each) numbers) s)) (state_at m acts count taken further)) is

-- nothing is wrong, and rows are asked, or there is no memory for them
pub asks_rows : (m : PlainInterpreter) (part : State → Outcome PlainArray) (faults : Faults) (n : PlainArray) (each : List ℕ) (deeds : List Deed) (rows : List PlainNameRow) (r : Result Asking Fail)
    → IsTested m part faults n each deeds → first_report faults ≡ None → zip (namings_of n) deeds ≡ rows
    → IfOk r (λ what. (s : State) → asked_part what s ≡ rest_of_rows [] rows (result_shape n each) s) → IfErr r (λ why. why ≡ fail.WantOfMemory) → Asks m part r
asks_rows m part faults n each deeds rows (Ok what) tested none are asked refused = λ acts count taken further.
    ap (λ (o : Outcome PlainArray). valued o) (tested acts count taken further)
    ∙ rows_done faults n each deeds rows (state_at m acts count taken further) none are
    ∙ sym (asked (state_at m acts count taken further))
asks_rows m part faults n each deeds rows (Err (fail.Report report)) tested none are asked refused = absurd (let no : fail.Report report ≡ fail.WantOfMemory = refused in cc)
asks_rows m part faults n each deeds rows (Err fail.WantOfMemory) tested none are asked refused = free_there m part faults n each deeds tested none

-- what a `?` hands out is why a call failed
pub asks_exit : (m : PlainInterpreter) (part : State → Outcome PlainArray) (r : Result Asking Fail) (y why : Fail) → r ≡ Err y → y ≡ why → Asks m part (Err why) → Asks m part r
asks_exit m part r y why exit same there = subst (λ (x : Result Asking Fail). Asks m part x) (sym exit) (subst (λ (w : Fail). Asks m part (Err w)) (sym same) there)

-- ---- rows that may be done

plain_may : (w : PlainWorkspace) (deed : Deed) (names : Naming) → is_offer deed ≡ false → MayBeDone w deed names
plain_may w (offer to) names plain = absurd (false≢true (sym plain))
plain_may w ask_degree names plain = tt
plain_may w (set_control control) names plain = tt
plain_may w ask_control names plain = tt
plain_may w ask_state names plain = tt
plain_may w retract names plain = tt

-- a deed that is no offer may be done for all names
pub alike_may : (w : PlainWorkspace) (deed : Deed) (list : List Naming) → is_offer deed ≡ false → All (RowMayBeDone w) (map (λ names. (names, deed)) list)
alike_may w deed list plain = All-map (RowMayBeDone w) (λ names. (names, deed)) list (λ k d lt. plain_may w deed _ plain)

zipped_may : (w : PlainWorkspace) (f : ℕ → Deed) (P : Naming → Type 0) (list : List Naming) (first : ℕ) → ((row : ℕ) (names : Naming) → row < first + length list → P names → MayBeDone w (f row) names) → All P list
    → All (RowMayBeDone w) (zip list (map f (range_with_len first (length list))))
zipped_may w f P [] first may holds = λ k d lt. absurd (omega arith)
zipped_may w f P (names ∷ list) first may holds =
    All-cons (RowMayBeDone w) (names, f first) (zip list (map f (range_with_len (first + 1) (length list)))) (may first names (omega arith) (All-head P names list holds)) (zipped_may w f P list (first + 1) (λ row n lt is. may row n (omega arith) is) (All-tail P names list holds))

-- what may be done for each name by its place may be done for all
pub each_may : (w : PlainWorkspace) (f : ℕ → Deed) (P : Naming → Type 0) (list : List Naming) → ((row : ℕ) (names : Naming) → row < length list → P names → MayBeDone w (f row) names) → All P list → All (RowMayBeDone w) (zip list (map f (places (length list))))
each_may w f P list may holds = zipped_may w f P list 0 (λ row names lt is. may row names (omega arith) is) holds
