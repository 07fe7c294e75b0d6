-- Scans of arrays that have items.
use native.Mathlib.Nat.{zero-div, zero-mod}
use Rattle.std.proofs.Common.{◌≡◌, ◌&&◌, Bool, true, false, ℕ, ℤ, zero, suc, ◌+◌, ◌*◌, ◌/◌, ◌%◌, ◌<◌, List, Option, Some, None, Result, Ok, Err, IsOk, length, get_or, option_map, refl, sym, ap, subst, ◌∙◌, arith}
use Rattle.std.specs.Prelude.{◌↔◌, IsTrue}
use Rattle.std.proofs.Math.Dec.{eqb}
use Rattle.std.proofs.lemmas.Bool.{false≢true}
use Rattle.apl_arrays.specs.declared.array.ShapeFault.{ShapeFault}
use Rattle.apl_arrays.specs.declared.items.Item.TheVariants.{Number, Char}
use Rattle.apl_arrays.specs.declared.report.Fail.{Fail}
use Rattle.apl_arrays.specs.declared.report.Fail.TheVariants as fail
use Rattle.apl_arrays.specs.declared.report.Report.{Report}
use Rattle.apl_arrays.specs.declared.report.Report.TheVariants.{Domain}
use Rattle.apl_verbs.specs.declared.verb.Dyad.{Dyad}
use Rattle.apl_arrays.specs.Array.{IsArray, PlainArray, PlainItems, chars, element_count, item_count, numbers}
use Rattle.apl_arrays.specs.Shape.{shape_fault}
use Rattle.apl_arrays.proofs.Shapes.{what_fits_has_no_fault}
use Rattle.apl_arrays.specs.declared.way.Way.{Way}
use Rattle.apl_items.specs.Answers.{ArrayResult, AnswersFirst, answer_of, faults_of_fault}
use Rattle.apl_items.specs.Axis.{axis_of, lacks_axis}
use Rattle.apl_items.specs.declared.shapes.Split.{Split}
use Rattle.apl_items.specs.Places.{HasItems, IsByPlace, MakesItems, OnWantOfMemory}
use Rattle.apl_items.specs.Shapes.{along_of, inner_of, outer_of, place_along, split_at, split_count}
use Rattle.apl_items.proofs.ShapeLemmas.{along_of_place, place_along_below, place_along_parts, split_count_lem}
use Rattle.apl_items.proofs.PlaceLemmas.{something_lacks}
use Rattle.apl_scalar.specs.Table.{dyadic_item, pair_item}
use Rattle.operator_rules.specs.Gathering.{char_in, gathered, lacks_char, lacks_number, number_in, numbers_answer}
use Rattle.operator_rules.specs.Reduction.{item_in, joined_by, number_on, reduction}
use Rattle.apl_operators.specs.Running.{front_at}
use Rattle.operator_rules.specs.Scan.{item_beside, scan_of, scanned, scanned_at}
use Rattle.apl_operators.proofs.GatherLemmas.{gathered_chars}
use Rattle.apl_operators.proofs.LineLemmas.{not_zero, reduced_numbers}
use Rattle.apl_operators.proofs.NumberLemmas.{gathered_as_numbers, numbers_lack, numbers_made, numbers_there}

-- a test that a count is 0 holds of 0
pub no_count : (n : ℕ) (test : Bool) → n ≡ 0 → test ≡ eqb n 0 → test ≡ false → ⊥
no_count n test none is other = let zero_is : eqb n 0 ≡ true = ap (λ (m : ℕ). eqb m 0) none in false≢true (sym other ∙ is ∙ zero_is)

-- where a test that there are no items fails, there are elements
pub some_items : (b : PlainArray) (items : PlainItems) (empty : Bool) → IsArray b → items ≡ b.items → empty ≡ false → (IsTrue empty ↔ (item_count items ≡ 0))
    → 0 < element_count b.shape
some_items b items empty array is other test = by_count (element_count b.shape) refl
  where
    by_count : (n : ℕ) → element_count b.shape ≡ n → 0 < n
    by_count zero e = absurd (let none : item_count items ≡ 0 = ap item_count is ∙ sym array.whole ∙ e in false≢true (sym other ∙ test.1 none))
    by_count (suc n) e = omega arith

-- along an axis that is there
pub scan_along_an_axis : (f : Dyad) (b : PlainArray) (way : Way) (axis : Option ℤ) (used : ℕ) (result : Result PlainArray Fail) → lacks_axis (length b.shape) axis ≡ false
    → 0 < length b.shape → 0 < element_count b.shape → used ≡ axis_of (length b.shape) way axis → AnswersFirst result (scanned f b used) → AnswersFirst result (scan_of f b way axis)
scan_along_an_axis f b way axis used result named some items is_used answers =
    rw (named, not_zero (length b.shape) some, not_zero (element_count b.shape) items) (subst (λ (u : ℕ). AnswersFirst result (scanned f b u)) is_used answers)

-- a scan of numbers is of numbers
pub scan_of_numbers : (f : Dyad) (list : List ℤ) (split : Split) (shape : List ℕ) → gathered shape (scanned_at f (numbers list) split) ≡ numbers_answer shape (front_at (dyadic_item f) list split)
scan_of_numbers f list split shape =
    gathered_as_numbers shape (scanned_at f (numbers list) split) (front_at (dyadic_item f) list split)
    (λ place. reduced_numbers f (number_on list split (outer_of split place) (inner_of split place)) 0 (along_of split place))

scanned_as : (f : Dyad) (b : PlainArray) (axis : ℕ) (list : List ℤ) (split : Split) → b.items ≡ numbers list → split ≡ split_at b.shape axis
    → scanned f b axis ≡ numbers_answer b.shape (front_at (dyadic_item f) list split)
scanned_as f b axis list split is is_split =
    ap (λ (s : Split). gathered b.shape (scanned_at f b.items s)) (sym is_split) ∙ ap (λ (i : PlainItems). gathered b.shape (scanned_at f i split)) is ∙ scan_of_numbers f list split b.shape

pub scan_made : (f : Dyad) (b result : PlainArray) (axis : ℕ) (list made : List ℤ) (split : Split) → IsArray b → b.items ≡ numbers list → split ≡ split_at b.shape axis
    → IsByPlace (length list) (front_at (dyadic_item f) list split) made → result ≡ record { shape = b.shape; items = numbers made } → scanned f b axis ≡ Ok result
scan_made f b result axis list made split is_b is is_split by_place is_result =
    let given : PlainArray → ArrayResult = λ array. Ok array in
    let whole : length list ≡ element_count b.shape = sym (is_b.whole ∙ ap item_count is) in
    scanned_as f b axis list split is is_split
    ∙ numbers_made b.shape (length list) (front_at (dyadic_item f) list split) made (what_fits_has_no_fault b.shape is_b.fits) whole by_place ∙ ap given (sym is_result)

-- where no number is lacking there is no report
pub scan_there : (f : Dyad) (b : PlainArray) (axis : ℕ) (list made : List ℤ) (split : Split) → IsArray b → b.items ≡ numbers list → split ≡ split_at b.shape axis
    → IsByPlace (length list) (front_at (dyadic_item f) list split) made → IsOk (scanned f b axis)
scan_there f b axis list made split is_b is is_split by_place =
    rw (scan_made f b (record { shape = b.shape; items = numbers made }) axis list made split is_b is is_split by_place refl) refl

refusal : Report → ArrayResult
refusal report = Err report

pub scan_refused : (f : Dyad) (b : PlainArray) (axis : ℕ) (list : List ℤ) (split : Split) (why : Fail) → IsArray b → b.items ≡ numbers list → split ≡ split_at b.shape axis
    → MakesItems {T = ℤ} (Err why) (length list) (front_at (dyadic_item f) list split) → OnWantOfMemory {T = List ℤ} (Err why) (HasItems (length list) (front_at (dyadic_item f) list split))
    → AnswersFirst (Err why) (scanned f b axis)
scan_refused f b axis list split (fail.Report report) is_b is is_split refused wants =
    let whole : length list ≡ element_count b.shape = sym (is_b.whole ∙ ap item_count is) in
    scanned_as f b axis list split is is_split
    ∙ numbers_lack b.shape (length list) (front_at (dyadic_item f) list split) (what_fits_has_no_fault b.shape is_b.fits) whole refused.1
    ∙ ap (λ (r : Report). Err r) (sym refused.0)
scan_refused f b axis list split fail.WantOfMemory is_b is is_split refused wants =
    let whole : length list ≡ element_count b.shape = sym (is_b.whole ∙ ap item_count is) in
    rw (scanned_as f b axis list split is is_split) (numbers_there b.shape (length list) (front_at (dyadic_item f) list split) (what_fits_has_no_fault b.shape is_b.fits) whole wants)

-- along an axis of one place characters stay
pub lone_chars_stay : (f : Dyad) (b result : PlainArray) (axis : ℕ) (list : List ℕ) (split : Split) → IsArray b → b.items ≡ chars list → split ≡ split_at b.shape axis
    → split.along ≡ 1 → 0 < item_count b.items → result ≡ b → scanned f b axis ≡ Ok result
lone_chars_stay f b result axis list split is_b is is_split e some is_result =
    let given : PlainArray → ArrayResult = λ array. Ok array in
    let array : PlainItems → PlainArray = λ items. record { shape = b.shape; items = items } in
    ap (λ (s : Split). gathered b.shape (scanned_at f b.items s)) (sym is_split) ∙ ap (λ (i : PlainItems). gathered b.shape (scanned_at f i split)) is
    ∙ gathered_chars b.shape (length list) (scanned_at f (chars list) split) list (what_fits_has_no_fault b.shape is_b.fits) (sym (is_b.whole ∙ ap item_count is))
    (omega (arith, some, ap item_count is)) refl
    (λ place below.
    let first : along_of split place ≡ 0 = lone (place / split.inner) split.along e in
    ap (λ (n : ℕ). reduction (joined_by f) (item_beside (chars list) split place) 0 n) first
    ∙ ap (λ (p : ℕ). Some (Char (get_or list p 0))) (ap (λ (a : ℕ). place_along split (outer_of split place) a (inner_of split place)) (sym first) ∙ place_along_parts split place))
    ∙ ap given (ap array (sym is) ∙ sym is_result)
  where
    lone : (n along : ℕ) → along ≡ 1 → n % along ≡ 0
    lone n along e = ap (λ (m : ℕ). n % m) e ∙ (let none : n % 1 ≡ 0 = omega arith in none)

-- where they cannot be copied for want of memory there is no report
pub lone_chars_there : (f : Dyad) (b : PlainArray) (axis : ℕ) (list : List ℕ) (split : Split) → IsArray b → b.items ≡ chars list → split ≡ split_at b.shape axis → split.along ≡ 1
    → 0 < item_count b.items → IsOk (scanned f b axis)
lone_chars_there f b axis list split is_b is is_split e some = rw (lone_chars_stay f b b axis list split is_b is is_split e some refl) refl

no_char : (o : Option ℤ) → char_in (option_map Number o) ≡ None
no_char None = refl
no_char (Some n) = refl

-- a line of characters begins with one, and goes on with a number or with nothing
first_is_no_number : (f : Dyad) (list : List ℕ) (split : Split) (place : ℕ) → along_of split place ≡ 0 → number_in (scanned_at f (chars list) split place) ≡ None
first_is_no_number f list split place e = ap (λ (n : ℕ). number_in (reduction (joined_by f) (item_beside (chars list) split place) 0 n)) e

second_is_no_char : (f : Dyad) (list : List ℕ) (split : Split) (place : ℕ) → along_of split place ≡ suc zero → char_in (scanned_at f (chars list) split place) ≡ None
second_is_no_char f list split place e =
    ap (λ (n : ℕ). char_in (reduction (joined_by f) (item_beside (chars list) split place) 0 n)) e
    ∙ no_char (pair_item f (item_in (chars list) (place_along split (outer_of split place) 0 (inner_of split place))) (item_in (chars list) (place_along split (outer_of split place) (0 + 1) (inner_of split place))))

no_rows : (o a i : ℕ) → 0 < o * a * i → (0 < o) × (0 < a) × (0 < i)
no_rows zero a i h = absurd (let none : zero * a * i ≡ 0 = omega arith in omega (arith, none))
no_rows (suc o) zero i h = absurd (let none : suc o * zero * i ≡ 0 = omega arith in omega (arith, none))
no_rows (suc o) (suc a) zero h = absurd (omega arith)
no_rows (suc o) (suc a) (suc i) h = (omega arith, omega arith, omega arith)

pub chars_refused : (f : Dyad) (b : PlainArray) (axis : ℕ) (list : List ℕ) (split : Split) → IsArray b → b.items ≡ chars list → split ≡ split_at b.shape axis → axis < length b.shape
    → (split.along ≡ 1 → ⊥) → 0 < item_count b.items → scanned f b axis ≡ Err Domain
chars_refused f b axis list split is_b is is_split inside more some =
    let count : split_count split ≡ element_count b.shape = ap split_count is_split ∙ split_count_lem b.shape axis inside in
    let parts = no_rows split.outer split.along split.inner (omega (arith, some, is_b.whole, count)) in
    let two : 1 < split.along = two_or_more split.along parts.1 more in
    let zero_at : along_of split 0 ≡ 0 = nothing split.inner split.along parts.2 parts.1 in
    let one_at : along_of split (place_along split 0 1 0) ≡ 1 = along_of_place split 0 1 0 two parts.2 in
    let below = place_along_below split 0 1 0 parts.0 two parts.2 in
    let numbers_lack : lacks_number (element_count b.shape) (scanned_at f (chars list) split) ≡ true =
    something_lacks (element_count b.shape) (λ place. number_in (scanned_at f (chars list) split place)) (0, omega (arith, some, is_b.whole), first_is_no_number f list split 0 zero_at) in
    let chars_lack : lacks_char (element_count b.shape) (scanned_at f (chars list) split) ≡ true =
    something_lacks (element_count b.shape) (λ place. char_in (scanned_at f (chars list) split place)) (place_along split 0 1 0, omega (arith, below, count), second_is_no_char f list split (place_along split 0 1 0) one_at) in
    ap (λ (s : Split). gathered b.shape (scanned_at f b.items s)) (sym is_split) ∙ ap (λ (i : PlainItems). gathered b.shape (scanned_at f i split)) is
    ∙ refused_by (shape_fault b.shape) (lacks_number (element_count b.shape) (scanned_at f (chars list) split)) (lacks_char (element_count b.shape) (scanned_at f (chars list) split)) _
    (what_fits_has_no_fault b.shape is_b.fits) numbers_lack chars_lack
  where
    two_or_more : (n : ℕ) → 0 < n → (n ≡ 1 → ⊥) → 1 < n
    two_or_more n h other = omega arith

    nothing : (i a : ℕ) → 0 < i → 0 < a → 0 / i % a ≡ 0
    nothing i a h k = let none : 0 / i ≡ 0 = zero-div i in rw none (zero-mod a)

    refused_by : (fault : Option ShapeFault) (x y : Bool) (array : PlainArray) → fault ≡ None → x ≡ true → y ≡ true
        → answer_of (record (faults_of_fault fault) { bad_domain = x && y }) array ≡ Err Domain
    refused_by fault x y array p q r = rw (p, q, r) refl
