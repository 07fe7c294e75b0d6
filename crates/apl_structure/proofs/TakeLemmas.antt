-- The axes of a take and of a drop.
use Rattle.std.proofs.Common.{◌≡◌, ℕ, ℤ, zero, suc, pos, ◌+◌, ◌-◌, ◌<◌, ◌≤◌, ◌==◌, ◌&&◌, ◌||◌, Bool, true, false, not, cond, nat_le, nat_lt, List, [], ◌∷◌, Some, None, Ok, Err, is_some, length, map, replicate, slice_index, slice_index_or, unsigned_abs, get_or, refl, sym, ap, ◌∙◌, arith}
use Rattle.std.specs.Int.{is_negative}
use Rattle.std.proofs.lemmas.Bool.Decides.{nat_tests}
use Rattle.std.proofs.lemmas.List.{get_or-map, length-map, length-replicate, nil_from_length}
use Rattle.std.proofs.lemmas.List.Elements.{All-from_get_or, All-replicate}
use Rattle.std.proofs.lemmas.List.FromFn.{get_or-map-range_with_len, length-map-range_with_len}
use Rattle.std.proofs.lemmas.Nat.{mul-le}
use Rattle.apl_arrays.specs.declared.report.Report.TheVariants.{WsFull}
use Rattle.apl_arrays.specs.Array.{PlainArray, PlainItems, FitsLimits, IsArray, element_count, is_chars, item_count, numbers_in}
use Rattle.apl_arrays.specs.Shape.{shape_fault}
use Rattle.apl_items.specs.Answers.{first_report, no_faults}
use Rattle.apl_items.specs.Places.{places}
use Rattle.apl_items.proofs.ShapeLemmas.{element_count-cons}
use Rattle.apl_structure.specs.Lengths.{lengths}
use Rattle.apl_selection.specs.Picks.{picked}
use Rattle.apl_structure.specs.Taking.{axes_faults, axes_for, remaining, remaining_from, take_of, taken, taken_from, taken_shape}
use Rattle.apl_selection.specs.Listing.{is_scalar}
use Rattle.apl_selection.proofs.PickLemmas.{axes_small, some_same}
use Rattle.apl_selection.proofs.FaultLemmas.{answer_fits, answer_too_large, no_more_numbers, same_number}

-- ---- the axes of the source

not_over : (m n : ℕ) → nat_lt m n ≡ false → n ≤ m
not_over m n e = grind (arith, nat_tests)

by_tests : (over scalar many alike kind : Bool) → None ≡ first_report (record no_faults { bad_rank = over || scalar && many; bad_length = not scalar && not alike; bad_domain = kind })
    → (scalar ≡ true → many ≡ false) × (scalar ≡ false → alike ≡ true)
by_tests true scalar many alike kind e = absurd (cc)
by_tests false true true alike kind e = absurd (cc)
by_tests false true false alike kind e = (λ _. refl, λ f. absurd (cc))
by_tests false false many false kind e = absurd (cc)
by_tests false false many true kind e = (λ f. absurd (cc), λ _. refl)

ones_count : (n : ℕ) → element_count (replicate n 1) ≡ 1
ones_count zero = refl
ones_count (suc n) = let rest = ones_count n in let first = element_count-cons 1 (replicate n 1) in omega arith

ones_fit : (n : ℕ) → n ≤ 8 → FitsLimits (replicate n 1)
ones_fit n few = record {
  rank = omega (arith, length-replicate {A = ℕ} n 1);
  axes = All-replicate (λ axis. axis ≤ 16384) n 1 (omega arith);
  elements = omega (arith, ones_count n);
}

source_by : (b : PlainArray) (count : ℕ) (scalar : Bool) → IsArray b → (length b.shape == 0) ≡ scalar → (scalar ≡ true → nat_lt 8 count ≡ false) → (scalar ≡ false → (count == length b.shape) ≡ true)
    → FitsLimits (cond scalar (replicate count 1) b.shape) × (element_count (cond scalar (replicate count 1) b.shape) ≡ item_count b.items) × (length (cond scalar (replicate count 1) b.shape) ≡ count)
source_by b count true array e few alike = (
  ones_fit count (not_over 8 count (few refl)),
  ones_count count ∙ sym (ap element_count (nil_from_length b.shape (same_number (length b.shape) 0 e))) ∙ array.whole,
  length-replicate {A = ℕ} count 1,
)
source_by b count false array e few alike = (array.fits, array.whole, sym (same_number count (length b.shape) (alike refl)))

-- the source of a take or a drop has B's items, and as many axes as A numbers
pub source_fits : (a b : PlainArray) → IsArray b → None ≡ first_report (axes_faults a b)
    → FitsLimits (axes_for (item_count a.items) b) × (element_count (axes_for (item_count a.items) b) ≡ item_count b.items) × (length (axes_for (item_count a.items) b) ≡ item_count a.items)
source_fits a b array none =
    let tests = by_tests (nat_lt 1 (length a.shape)) (is_scalar b) (nat_lt 8 (item_count a.items)) (item_count a.items == length b.shape) (is_chars a.items) none in
    source_by b (item_count a.items) (is_scalar b) array refl tests.0 tests.1

-- A has no more numbers than there may be axes
pub few_taken : (a b : PlainArray) → IsArray b → None ≡ first_report (axes_faults a b) → length (numbers_in a.items) ≤ 8
few_taken a b array none =
    let parts = source_fits a b array none in
    omega (arith, parts.0.rank, parts.2, no_more_numbers a)

pub source_of : (a b : PlainArray) (count : ℕ) (source : List ℕ) → count ≡ item_count a.items → source ≡ axes_for count b → source ≡ axes_for (item_count a.items) b
source_of a b count source is e = e ∙ ap (λ (n : ℕ). axes_for n b) is

-- ---- take

pub take_too_large : (a b : PlainArray) (large : Bool) → None ≡ first_report (axes_faults a b) → large ≡ is_some (shape_fault (taken_shape a)) → large ≡ true → take_of a b ≡ Err WsFull
take_too_large a b large none is e = answer_too_large (axes_faults a b) (taken a b) (is_some (shape_fault (taken_shape a))) none (sym is ∙ e)

pub take_fits : (a b array : PlainArray) (large : Bool) → None ≡ first_report (axes_faults a b) → large ≡ is_some (shape_fault (taken_shape a)) → large ≡ false → array ≡ taken a b → take_of a b ≡ Ok array
take_fits a b array large none is e same =
    answer_fits (axes_faults a b) (taken a b) (is_some (shape_fault (taken_shape a))) none (sym is ∙ e) ∙ ap (λ (x : PlainArray). Ok x) (sym same)

pub taken_is : (a b : PlainArray) (numbers : List ℤ) (source shape : List ℕ) (items : PlainItems) → numbers ≡ numbers_in a.items → source ≡ axes_for (item_count a.items) b
    → shape ≡ taken_shape a → items ≡ b.items
    → picked shape source items (λ axis along. taken_from (slice_index_or numbers axis (pos 0)) (slice_index source axis) along) ≡ taken a b
taken_is a b numbers source shape items n s e i = rw (n, s, e, i) refl

-- ---- drop

pub left_is : (a b : PlainArray) (numbers : List ℤ) (source shape : List ℕ) (items : PlainItems) → numbers ≡ numbers_in a.items → source ≡ axes_for (item_count a.items) b
    → shape ≡ map (λ axis. slice_index source axis - unsigned_abs (slice_index_or numbers axis (pos 0))) (places (length source)) → items ≡ b.items
    → picked shape source items (λ axis along. remaining_from (slice_index_or numbers axis (pos 0)) (slice_index source axis) along) ≡ remaining a b
left_is a b numbers source shape items n s e i = rw (e, n, s, i) refl

-- as many axes, none longer, have no more elements
pub no_more_elements : (xs ys : List ℕ) → length xs ≡ length ys → ((k : ℕ) → k < length xs → get_or xs k 0 ≤ get_or ys k 0) → element_count xs ≤ element_count ys
no_more_elements [] [] e each = omega arith
no_more_elements [] (y ∷ ys) e each = absurd (omega arith)
no_more_elements (x ∷ xs) [] e each = absurd (omega arith)
no_more_elements (x ∷ xs) (y ∷ ys) e each =
    let rest = no_more_elements xs ys (omega arith) (λ k h. each (suc k) (omega arith)) in
    let bound = mul-le x (element_count xs) y (element_count ys) (each 0 (omega arith)) rest in
    omega (arith, bound, element_count-cons x xs, element_count-cons y ys)

pub left_fits : (source : List ℕ) (numbers : List ℤ) (shape : List ℕ) → FitsLimits source
    → shape ≡ map (λ axis. slice_index source axis - unsigned_abs (slice_index_or numbers axis (pos 0))) (places (length source)) → FitsLimits shape × (length source ≡ length shape)
left_fits source numbers shape fits e =
    let item : ℕ → ℕ = λ axis. slice_index source axis - unsigned_abs (slice_index_or numbers axis (pos 0)) in
    let rank : length shape ≡ length source = ap (λ (xs : List ℕ). length xs) e ∙ length-map-range_with_len item 0 (length source) in
    let each : (k : ℕ) → k < length shape → get_or shape k 0 ≤ get_or source k 0 = λ k h.
    let at = ap (λ (xs : List ℕ). get_or xs k 0) e ∙ get_or-map-range_with_len item 0 (length source) k k 0 (omega arith) (omega arith) in omega arith in (
      record {
        rank = omega (arith, fits.rank);
        axes = All-from_get_or (λ n. n ≤ 16384) shape 0 (λ k h. let low = each k h in let small = axes_small source fits k (omega arith) in omega arith);
        elements = omega (arith, fits.elements, no_more_elements shape source rank each);
      },
      sym rank,
    )

below_from_test : (m n : ℕ) → nat_lt m n ≡ true → m < n
below_from_test m n e = grind (arith, nat_tests)

upto_from_test : (m n : ℕ) → nat_le m n ≡ true → m ≤ n
upto_from_test m n e = grind (arith, nat_tests)

taken_by_sign : (negative enough inside : Bool) (count along long place : ℕ) → along < count → nat_le count (along + long) ≡ enough → nat_lt along long ≡ inside
    → cond negative (cond enough (Some (along + long - count)) None) (cond inside (Some along) None) ≡ Some place → place < long
taken_by_sign true true inside count along long place low p q e =
    let bound = upto_from_test count (along + long) p in let is = some_same (along + long - count) place e in omega arith
taken_by_sign true false inside count along long place low p q e = absurd (cc)
taken_by_sign false enough true count along long place low p q e =
    let bound = below_from_test along long q in let is = some_same along place e in omega arith
taken_by_sign false enough false count along long place low p q e = absurd (cc)

-- the places of a take are on the axes of the source
pub taken_inside : (numbers : List ℤ) (shape source : List ℕ) → shape ≡ lengths numbers → (axis along place : ℕ) → axis < length shape → along < slice_index shape axis
    → taken_from (slice_index_or numbers axis (pos 0)) (slice_index source axis) along ≡ Some place → place < slice_index source axis
taken_inside numbers shape source e axis along place inside low is =
    let number : ℤ = slice_index_or numbers axis (pos 0) in
    let rank : length shape ≡ length numbers = ap (λ (xs : List ℕ). length xs) e ∙ length-map numbers unsigned_abs in
    let count : slice_index shape axis ≡ unsigned_abs number = ap (λ (xs : List ℕ). slice_index xs axis) e ∙ get_or-map unsigned_abs numbers axis (pos 0) 0 (omega arith) in
    taken_by_sign (is_negative number) (nat_le (unsigned_abs number) (along + slice_index source axis)) (nat_lt along (slice_index source axis)) (unsigned_abs number) along (slice_index source axis) place
    (omega arith) refl refl is
