-- What moved twice stands where it stood.
use Rattle.std.proofs.Common.{◌≡◌, ℕ, ℤ, zero, suc, pos, ◌+◌, ◌-◌, ◌*◌, ◌%◌, ◌<◌, ◌==◌, ◌&&◌, ◌||◌, Bool, true, false, not, nat_lt, List, [], ◌∷◌, map, Option, Some, None, Ok, is_some, length, slice_index, refl, sym, ap, subst, ◌∙◌, arith}
use Rattle.std.specs.Int.{is_negative}
use Rattle.std.specs.List.{list_any}
use Rattle.std.specs.Ordering.{int_eq}
use Rattle.std.proofs.lemmas.Bool.Decides.{nat_tests}
use Rattle.std.proofs.lemmas.Nat.{mod-mul-add}
use Rattle.std.proofs.lemmas.List.{length-map}
use Rattle.apl_arrays.specs.Array.{PlainArray, IsArray, numbers, element_count, item_count}
use Rattle.apl_arrays.specs.declared.report.Report.{Report}
use Rattle.apl_arrays.specs.Shape.{shape_fault}
use Rattle.apl_arrays.proofs.Shapes.{what_fits_has_no_fault}
use Rattle.apl_items.specs.Answers.{ArrayResult, first_report, no_faults, unless}
use Rattle.apl_items.specs.Along.{source_along}
use Rattle.apl_items.specs.Moves.{moved_items}
use Rattle.apl_items.specs.Shapes.{split_at}
use Rattle.apl_items.proofs.ShapeLemmas.{split_count_lem, element_count-cons}
use Rattle.apl_structure.specs.Lengths.{lengths}
use Rattle.apl_structure.specs.Moves.{moved_on}
use Rattle.apl_structure.specs.Plain.{ravel_of, shape_of}
use Rattle.apl_structure.specs.Reshaping.{is_hollow, reshape_faults, reshape_of, reshaped}
use Rattle.apl_structure.specs.Reversal.{from_the_end, reversed}
use Rattle.apl_selection.proofs.BackLemmas.{IsBack, LeadsBack, back_along, back_items, items_stay}
use Rattle.apl_selection.proofs.MoveLemmas.{array_of, same_moved}
use Rattle.apl_selection.proofs.FaultLemmas.{few_axes, same_number}

-- items that moved along an axis and back stay
pub moved_back : (b : PlainArray) (axis : ℕ) (first again : ℕ → ℕ → Option ℕ) → IsArray b → axis < length b.shape
    → ((line along : ℕ) → along < slice_index b.shape axis → LeadsBack (slice_index b.shape axis) first again line along) → moved_on (moved_on b axis first) axis again ≡ b
moved_back b axis first again array inside leads =
    let split = split_at b.shape axis in
    let long = slice_index b.shape axis in
    let count = split_count_lem b.shape axis inside in
    ap (array_of b.shape) (back_items b.items (element_count b.shape) (element_count b.shape) (source_along split long first) (source_along split long again) (sym array.whole)
    (λ place h. subst (λ (n : ℕ). IsBack n (source_along split long first) (source_along split long again) place) count
    (back_along split.outer split.inner long long first again leads place (omega (arith, count, h)))))

-- ---- reversed twice

from_the_end_is : (long along : ℕ) → along < long → from_the_end long along ≡ Some (long - 1 - along)
from_the_end_is long along h = let test : nat_lt along long ≡ true = within along long h in rw test refl
  where
    within : (m n : ℕ) → m < n → nat_lt m n ≡ true
    within m n h = grind (arith, nat_tests)

moved_twice : (b : PlainArray) (axis : ℕ) → IsArray b → axis < length b.shape
    → moved_on (moved_on b axis (λ line along. from_the_end (slice_index b.shape axis) along)) axis (λ line along. from_the_end (slice_index b.shape axis) along) ≡ b
moved_twice b axis array inside =
    let long = slice_index b.shape axis in
    let mirror : ℕ → ℕ → Option ℕ = λ line along. from_the_end long along in
    moved_back b axis mirror mirror array inside (λ line along h.
    let again : long - 1 - (long - 1 - along) ≡ along = omega arith in record {
      at = long - 1 - along;
      below = omega arith;
      there = from_the_end_is long along h;
      back = from_the_end_is long (long - 1 - along) (omega arith) ∙ ap (λ (n : ℕ). Some n) again;
    })

twice_by_rank : (b : PlainArray) (axis : ℕ) (scalar : Bool) → IsArray b → (length b.shape == 0) ≡ scalar → (0 < length b.shape → axis < length b.shape) → reversed (reversed b axis) axis ≡ b
twice_by_rank b axis true array e inside = rw (e, e) refl
twice_by_rank b axis false array e inside = rw (e, e) (moved_twice b axis array (inside (some_axes (length b.shape) e)))
  where
    some_axes : (n : ℕ) → (n == 0) ≡ false → 0 < n
    some_axes n e = grind (arith, nat_tests)

pub reversed_twice : (b : PlainArray) (axis : ℕ) → IsArray b → (0 < length b.shape → axis < length b.shape) → reversed (reversed b axis) axis ≡ b
reversed_twice b axis array inside = twice_by_rank b axis (length b.shape == 0) array refl inside

-- ---- reshaped to its own shape

lengths_of_shape : (shape : List ℕ) → lengths (map (λ axis. pos axis) shape) ≡ shape
lengths_of_shape [] = refl
lengths_of_shape (x ∷ xs) = ap (λ (rest : List ℕ). x ∷ rest) (lengths_of_shape xs)

pub not_negative : (n : ℕ) → is_negative (pos n) ≡ false
not_negative n = grind (arith, nat_tests)

no_negative : (shape : List ℕ) → list_any is_negative (map (λ axis. pos axis) shape) ≡ false
no_negative [] = refl
no_negative (x ∷ xs) = ap (λ (b : Bool). b || list_any is_negative (map (λ axis. pos axis) xs)) (not_negative x) ∙ no_negative xs

hollow_by : (x count : ℕ) (first rest : Bool) → (x ≡ 0 → first ≡ true) → (count ≡ 0 → rest ≡ true) → x * count ≡ 0 → (first || rest) ≡ true
hollow_by x count true rest is none e = refl
hollow_by x zero false rest is none e = none refl
hollow_by zero (suc count) false rest is none e = absurd (let wrong = is refl in cc)
hollow_by (suc x) (suc count) false rest is none e = absurd (omega arith)

same_zero : (x : ℕ) → x ≡ 0 → int_eq (pos x) (pos 0) ≡ true
same_zero x e = ap (λ (n : ℕ). int_eq (pos n) (pos 0)) e

hollow_from : (shape : List ℕ) → element_count shape ≡ 0 → is_hollow (map (λ axis. pos axis) shape) ≡ true
hollow_from [] e = absurd (omega arith)
hollow_from (x ∷ xs) e = hollow_by x (element_count xs) (int_eq (pos x) (pos 0)) (is_hollow (map (λ axis. pos axis) xs)) (λ e. same_zero x e) (hollow_from xs) (sym (element_count-cons x xs) ∙ e)

asks_for_none : (count : ℕ) (empty hollow : Bool) → (count == 0) ≡ empty → (count ≡ 0 → hollow ≡ true) → (empty && not hollow) ≡ false
asks_for_none count false hollow e is = refl
asks_for_none count true hollow e is = rw (is (same_number count 0 e)) refl

nothing_reported : (rank negative asks large : Bool) → rank ≡ false → negative ≡ false → asks ≡ false → large ≡ false
    → first_report (record no_faults { bad_rank = false || rank; bad_domain = false || negative || asks; too_large = large }) ≡ None
nothing_reported rank negative asks large p q r s = rw (p, q, r, s) refl

cycle_here : (place long : ℕ) → place < long → place % long ≡ place
cycle_here place long h = let e : place ≡ 0 * long + place = omega arith in ap (λ (n : ℕ). n % long) e ∙ mod-mul-add 0 long place h

-- the shape and all items of an array, as arrays
shape_array : PlainArray → PlainArray
shape_array b = record { shape = length b.shape ∷ []; items = numbers (map (λ axis. pos axis) b.shape) }

all_array : PlainArray → PlainArray
all_array b = record { shape = item_count b.items ∷ []; items = b.items }

nothing_wrong : (b : PlainArray) → IsArray b → first_report (record (reshape_faults (shape_array b) (all_array b)) { too_large = is_some (shape_fault (lengths (map (λ axis. pos axis) b.shape))) }) ≡ None
unfolding shape_array all_array
nothing_wrong b array =
    let numbers_of_shape : List ℤ = map (λ axis. pos axis) b.shape in
    let same = lengths_of_shape b.shape in
    let rank = length-map b.shape (λ axis. pos axis) in
    nothing_reported (nat_lt 8 (length numbers_of_shape)) (list_any is_negative numbers_of_shape) (item_count b.items == 0 && not (is_hollow numbers_of_shape)) (is_some (shape_fault (lengths numbers_of_shape)))
    (few_axes (length numbers_of_shape) (omega (arith, rank, array.fits.rank))) (no_negative b.shape)
    (asks_for_none (item_count b.items) (item_count b.items == 0) (is_hollow numbers_of_shape) refl (λ none. hollow_from b.shape (array.whole ∙ none)))
    (ap (λ (xs : List ℕ). is_some (shape_fault xs)) same ∙ ap is_some (what_fits_has_no_fault b.shape array.fits))

own_shape : (b : PlainArray) → IsArray b → reshaped (lengths (map (λ axis. pos axis) b.shape)) (all_array b) ≡ b
unfolding all_array
own_shape b array =
    let over : ℕ → Option ℕ = λ place. Some (place % item_count b.items) in
    ap (λ (xs : List ℕ). reshaped xs (all_array b)) (lengths_of_shape b.shape)
    ∙ ap (array_of b.shape)
    (ap (λ (n : ℕ). moved_items b.items n over) array.whole
    ∙ same_moved b.items (item_count b.items) over (λ place. Some place) (λ place h. ap (λ (n : ℕ). Some n) (cycle_here place (item_count b.items) h))
    ∙ items_stay b.items)

-- what one answer holds
pub ok_same : (x y : PlainArray) (a b : ArrayResult) → a ≡ b → a ≡ Ok x → b ≡ Ok y → x ≡ y
ok_same x y a b e p q = cc

-- all items of an array in its shape are the array
pub reshaped_to_itself : (b : PlainArray) → IsArray b → (shape all : PlainArray) → shape_of b ≡ Ok shape → ravel_of b ≡ Ok all → reshape_of shape all ≡ Ok b
unfolding shape_array all_array
reshaped_to_itself b array shape all s a =
    let shape_is = ok_same (shape_array b) shape (shape_of b) (shape_of b) refl refl s in
    let all_is = ok_same (all_array b) all (ravel_of b) (ravel_of b) refl refl a in
    ap (λ (x : PlainArray). reshape_of x all) (sym shape_is) ∙ ap (λ (x : PlainArray). reshape_of (shape_array b) x) (sym all_is)
    ∙ ap (λ (report : Option Report). unless report (reshaped (lengths (map (λ axis. pos axis) b.shape)) (all_array b))) (nothing_wrong b array)
    ∙ ap (λ (x : PlainArray). Ok x) (own_shape b array)
