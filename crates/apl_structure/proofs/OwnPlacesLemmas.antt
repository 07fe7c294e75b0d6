-- A vector at all its places is the vector.
use Rattle.std.proofs.Common.{◌≡◌, ℕ, zero, suc, ◌+◌, ◌-◌, ◌*◌, ◌/◌, ◌<◌, ◌≤◌, ◌==◌, ◌||◌, Bool, false, nat_lt, pos, List, [], ◌∷◌, Option, Some, None, Ok, is_some, option_map, length, map, slice_get, unsigned_abs, refl, sym, ap, ◌∙◌, arith}
use Rattle.std.specs.Int.{is_negative}
use Rattle.std.specs.List.{list_any, range_with_len}
use Rattle.std.proofs.lemmas.Bool.Decides.{nat_tests}
use Rattle.std.proofs.lemmas.Nat.{div-mul-add}
use Rattle.apl_arrays.specs.declared.report.Report.{Report}
use Rattle.apl_arrays.specs.Array.{PlainArray, PlainItems, number_array, IsArray, element_count, item_count}
use Rattle.apl_arrays.specs.Shape.{shape_fault}
use Rattle.apl_arrays.proofs.Shapes.{what_fits_has_no_fault}
use Rattle.apl_items.specs.Answers.{ArrayResult, first_report, no_faults, unless}
use Rattle.apl_items.specs.Axes.{added}
use Rattle.apl_items.specs.Moves.{moved_items}
use Rattle.apl_items.specs.Places.{places}
use Rattle.apl_structure.specs.Counting.{first_numbers, iota_of}
use Rattle.apl_selection.specs.Indexing.{selection_of, indexed, named_place}
use Rattle.apl_structure.specs.Plain.{shape_of}
use Rattle.apl_selection.specs.Subscripts.{is_outside, point_outside}
use Rattle.apl_selection.proofs.GivenBackLemmas.{fine}
use Rattle.apl_selection.proofs.IndexLemmas.{place_of_axis}
use Rattle.apl_selection.proofs.BackLemmas.{items_stay}
use Rattle.apl_structure.proofs.LawLemmas.{not_negative}
use Rattle.apl_selection.proofs.MoveLemmas.{array_of, same_moved}
use Rattle.apl_selection.proofs.SubscriptLemmas.{whole_axis}

number_on_axis : (long place : ℕ) → place < long → is_outside long (pos (place + 1)) ≡ false
number_on_axis long place below = by_parts (is_negative (pos (place + 1))) (place + 1 == 0) (nat_lt long (place + 1)) (not_negative (place + 1)) (not_zero place) (not_over long place below)
  where
    by_parts : (a b c : Bool) → a ≡ false → b ≡ false → c ≡ false → (a || b || c) ≡ false
    by_parts a b c p q r = rw (p, q, r) refl

    not_zero : (n : ℕ) → (n + 1 == 0) ≡ false
    not_zero n = grind (arith, nat_tests)

    not_over : (m n : ℕ) → n < m → nat_lt m (n + 1) ≡ false
    not_over m n h = grind (arith, nat_tests)

all_on_axis : (long count first : ℕ) → first + count ≤ long → list_any (is_outside long) (map (λ place. pos (place + 1)) (range_with_len first count)) ≡ false
all_on_axis long zero first fits = refl
all_on_axis long (suc count) first fits =
    ap (λ (b : Bool). b || list_any (is_outside long) (map (λ place. pos (place + 1)) (range_with_len (first + 1) count))) (number_on_axis long first (omega arith))
    ∙ all_on_axis long count (first + 1) (omega arith)

places_again : (count first : ℕ) → map (λ number. unsigned_abs number - 1) (map (λ place. pos (place + 1)) (range_with_len first count)) ≡ range_with_len first count
places_again zero first = refl
places_again (suc count) first =
    let here : first + 1 - 1 ≡ first = omega arith in
    ap (λ (n : ℕ). n ∷ map (λ number. unsigned_abs number - 1) (map (λ place. pos (place + 1)) (range_with_len (first + 1) count))) here
    ∙ ap (λ (xs : List ℕ). first ∷ xs) (places_again count (first + 1))

over_one : (n : ℕ) → n / 1 ≡ n
over_one n = let e : n ≡ n * 1 + 0 = omega arith in ap (λ (m : ℕ). m / 1) e ∙ div-mul-add n 1 0 (omega arith)

own_place : (long place : ℕ) → place < long → named_place (long ∷ []) (Some (first_numbers long) ∷ []) place ≡ Some place
own_place long place below =
    let all : List ℕ = map (λ number. unsigned_abs number - 1) (map (λ place. pos (place + 1)) (places long)) in
    let found : ℕ → List ℕ → Option ℕ = λ at xs. added (option_map (λ (n : ℕ). n * 1) (slice_get xs at)) (Some 0) in
    let same : place * 1 + 0 ≡ place = omega arith in
    ap (λ (n : ℕ). found n all) (over_one place) ∙ ap (found place) (places_again long 0)
    ∙ ap (λ (o : Option ℕ). added (option_map (λ (n : ℕ). n * 1) o) (Some 0)) (place_of_axis long place below) ∙ ap (λ (n : ℕ). Some n) same

ok_same : (x y : PlainArray) (a : ArrayResult) → a ≡ Ok x → a ≡ Ok y → x ≡ y
ok_same x y a e i = cc

count_is_fine : (negative large : Bool) → negative ≡ false → large ≡ false → first_report (record no_faults { bad_domain = false || negative; too_large = large }) ≡ None
count_is_fine negative large p q = rw (p, q) refl

few_items : (n : ℕ) → n ≤ 16384 → nat_lt 16384 n ≡ false
few_items n h = grind (arith, nat_tests)

own_by : (shape : List ℕ) (items : PlainItems) (count numbers : PlainArray) → IsArray (array_of shape items) → length shape ≡ 1 → shape_of (array_of shape items) ≡ Ok count → iota_of count ≡ Ok numbers
    → selection_of (array_of shape items) (Some numbers ∷ []) ≡ Ok (array_of shape items)
own_by [] items count numbers array vector s i = absurd (omega arith)
own_by (n ∷ m ∷ rest) items count numbers array vector s i = absurd (omega arith)
own_by (n ∷ []) items count numbers array vector s i =
    let b : PlainArray = array_of (n ∷ []) items in
    let whole : element_count (n ∷ []) ≡ n = sym (whole_axis n) in
    let small : n ≤ 16384 = omega (arith, array.fits.elements) in
    let asked = ok_same (number_array (1 ∷ []) (pos n ∷ [])) count (shape_of b) refl s in
    let made : iota_of (number_array (1 ∷ []) (pos n ∷ [])) ≡ Ok (first_numbers n)
    = ap (λ (report : Option Report). unless report (first_numbers n)) (count_is_fine (is_negative (pos n)) (nat_lt 16384 n) (not_negative n) (few_items n small)) in
    let given = ok_same (first_numbers n) numbers (iota_of (number_array (1 ∷ []) (pos n ∷ []))) made (ap iota_of asked ∙ i) in
    let subs : List (Option PlainArray) = Some (first_numbers n) ∷ [] in
    let is_fine = fine false false false (point_outside (n ∷ []) subs) (is_some (shape_fault (n ∷ []))) refl refl refl
    (ap (λ (x : Bool). x || false) (all_on_axis n n 0 (omega arith))) (ap is_some (what_fits_has_no_fault (n ∷ []) array.fits)) in
    ap (λ (x : PlainArray). selection_of b (Some x ∷ [])) (sym given)
    ∙ ap (λ (report : Option Report). unless report (indexed b subs)) is_fine
    ∙ ap (λ (x : PlainItems). Ok (array_of (n ∷ []) x))
    (ap (λ (k : ℕ). moved_items items k (named_place (n ∷ []) subs)) array.whole
    ∙ same_moved items (item_count items) (named_place (n ∷ []) subs) (λ place. Some place) (λ place h. own_place n place (let same = array.whole in omega arith)) ∙ items_stay items)

-- a vector at all its places
pub own_places : (b count numbers : PlainArray) → IsArray b → length b.shape ≡ 1 → shape_of b ≡ Ok count → iota_of count ≡ Ok numbers → selection_of b (Some numbers ∷ []) ≡ Ok b
own_places b count numbers array vector s i = own_by b.shape b.items count numbers array vector s i
