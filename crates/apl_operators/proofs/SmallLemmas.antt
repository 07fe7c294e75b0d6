-- Sums of numbers so small that none leaves 64 bits.
use Rattle.std.proofs.Common.{◌≡◌, ℕ, ℤ, zero, suc, ◌+◌, ◌-◌, ◌*◌, ◌^◌, ◌/◌, ◌%◌, ◌<◌, ◌≤◌, All, true, List, Option, None, Some, pos, get_or, unsigned_abs, length, slice_get, w64, refl, sym, ap, ◌∙◌, arith}
use Rattle.std.specs.Prelude.{◌+ℤ◌, slice_index_or}
use Rattle.std.specs.Int.{int_wrap, int_wrapping_add}
use Rattle.std.proofs.Math.Nat.{le_refl}
use Rattle.std.proofs.lemmas.Int.{fits_signed_from_abs, int_wrap_fits, wrapping_add_is}
use Rattle.std.proofs.lemmas.List.Elements.{All-get_or}
use Rattle.std.proofs.lemmas.Nat.{div-add-mod', mul-le}
use Rattle.std.proofs.lemmas.Option.{slice_get-get_or}
use Rattle.apl_verbs.specs.declared.verb.Dyad.TheVariants.{Plus}
use Rattle.apl_items.specs.declared.shapes.Split.{Split}
use Rattle.apl_items.specs.Places.{HasItems}
use Rattle.apl_items.specs.Shapes.{along_of, inner_of, outer_of, place_along, split_count}
use Rattle.apl_items.proofs.ShapeLemmas.{place_along_below}
use Rattle.apl_scalar.specs.Table.{dyadic_item, item_where}
use Rattle.operator_rules.specs.Reduction.{front_of_line, joined}
use Rattle.apl_operators.specs.Running.{AreSmall, Runs, front_at, row_length, wrapped_sum}
use Rattle.apl_operators.proofs.FrontLemmas.{where_fits, where_is}
use Rattle.apl_operators.proofs.LastLemmas.{parts_within}
use Rattle.apl_operators.proofs.RunLemmas.{row_place, runs_by_steps}
use Rattle.apl_operators.proofs.WeightLemmas.{exact_reduction, exactly, fits_below, steps_of_sums, sums, total}

-- a bound that goes so many times into the greatest number of 64 bits
pub small_by_quotient : (list : List ℤ) (most count : ℕ) → All (λ number. unsigned_abs number ≤ most) list → most ≤ 9223372036854775807 / count → AreSmall list count
small_by_quotient list most count each below =
    (most, each, at_most (most * count) (9223372036854775807 / count * count) (9223372036854775807 % count) (mul-le most count (9223372036854775807 / count) count below (le_refl count)) (div-add-mod' 9223372036854775807 count))
  where
    at_most : (n m r : ℕ) → n ≤ m → m + r ≡ 9223372036854775807 → n < 2 ^ 63
    at_most n m r h e = omega (arith, h, e)

-- so many weights, none above one, are together at most so many times that one
few_weigh_little : (weight : ℕ → ℕ) (most from more : ℕ) → ((k : ℕ) → k ≤ from + more → weight k ≤ most) → total ◌+◌ weight from more ≤ most * (more + 1)
few_weigh_little weight most from zero each = let here = each from (omega arith) in omega (arith, here)
few_weigh_little weight most from (suc more) each =
    let here = each from (omega arith) in
    let rest = few_weigh_little weight most (from + 1) more (λ k h. each k (omega arith)) in
    omega (arith, here, rest)

-- the numbers on a line up to a place are together small
line_is_small : (list : List ℤ) (split : Split) (outer inner along : ℕ) (small : AreSmall list split.along) → split_count split ≡ length list → outer < split.outer → inner < split.inner → along < split.along
    → total ◌+◌ (λ k. unsigned_abs (slice_index_or list (place_along split outer k inner) (pos 0))) 0 along < 2 ^ 63
line_is_small list split outer inner along small whole p q inside =
    let few = few_weigh_little (λ k. unsigned_abs (slice_index_or list (place_along split outer k inner) (pos 0))) small.0 0 along
    (λ k h.
    let below = place_along_below split outer k inner p (omega (arith, h, inside)) q in
    All-get_or (λ number. unsigned_abs number ≤ small.0) list (place_along split outer k inner) (pos 0) (omega (arith, below, whole)) small.1) in
    let times = mul-le small.0 (along + 1) small.0 split.along (le_refl small.0) (omega (arith, inside)) in
    omega (arith, few, times, small.2)

-- each front of a line has a small value
small_front : (list : List ℤ) (split : Split) (outer inner along : ℕ) → split_count split ≡ length list → AreSmall list split.along → outer < split.outer → inner < split.inner → along < split.along
    → (t : ℤ) × (front_of_line (dyadic_item Plus) list split outer inner along ≡ Some t) × (unsigned_abs t < 2 ^ 63)
small_front list split outer inner along whole small p q inside =
    let number : ℕ → ℤ = λ k. slice_index_or list (place_along split outer k inner) (pos 0) in
    let low = line_is_small list split outer inner along small whole p q inside in
    let exact = exact_reduction (dyadic_item Plus) ◌+ℤ◌ ◌+◌ 0 sums number (λ k. unsigned_abs (number k)) (record { bounds = λ k. le_refl (unsigned_abs (number k)); lows = λ k. omega arith }) 0 along low in
    (exactly ◌+ℤ◌ number 0 along, exact.0, omega (arith, exact.1, low))

small_fronts : (list : List ℤ) (split : Split) → split_count split ≡ length list → AreSmall list split.along → (place : ℕ) → place < length list
    → (t : ℤ) × (front_at (dyadic_item Plus) list split place ≡ Some t) × (unsigned_abs t < 2 ^ 63)
small_fronts list split whole small place below =
    let within = parts_within split place (omega (arith, below, whole)) in
    small_front list split (outer_of split place) (inner_of split place) (along_of split place) whole small within.0 within.2 within.1

pub small_fronts_exist : (list : List ℤ) (split : Split) → split_count split ≡ length list → AreSmall list split.along → HasItems (length list) (front_at (dyadic_item Plus) list split)
small_fronts_exist list split whole small place below = let front = small_fronts list split whole small place below in (front.0, front.1)

-- a small sum is not cut
not_cut : (a b t : ℤ) → unsigned_abs a < 2 ^ 63 → unsigned_abs b < 2 ^ 63 → unsigned_abs t < 2 ^ 63 → a +ℤ b ≡ t → int_wrapping_add w64 a b ≡ t
not_cut a b t p q r e =
    wrapping_add_is w64 a b (fits_signed_from_abs w64 a p) (fits_signed_from_abs w64 b q) ∙ ap (int_wrap w64) e ∙ int_wrap_fits w64 t (fits_signed_from_abs w64 t r)

joined_uncut : (u v : Option ℤ) (a b t : ℤ) → u ≡ Some a → v ≡ Some b → joined (dyadic_item Plus) u v ≡ Some t → unsigned_abs a < 2 ^ 63 → unsigned_abs b < 2 ^ 63 → unsigned_abs t < 2 ^ 63
    → Some t ≡ joined wrapped_sum u v
joined_uncut u v a b t is_u is_v sum p q r =
    let both : joined (dyadic_item Plus) u v ≡ item_where true (a +ℤ b) = ap (λ (o : Option ℤ). joined (dyadic_item Plus) o v) is_u ∙ ap (λ (o : Option ℤ). joined (dyadic_item Plus) (Some a) o) is_v in
    let value = where_is true (a +ℤ b) t (sym both ∙ sum) in
    sym (ap (λ (o : Option ℤ). joined wrapped_sum o v) is_u ∙ ap (λ (o : Option ℤ). joined wrapped_sum (Some a) o) is_v ∙ ap Some (not_cut a b t p q r value.0))

-- each front follows from the one before it by a sum that is not cut
pub small_fronts_run : (list : List ℤ) (split : Split) → split_count split ≡ length list → 0 < split.along → AreSmall list split.along
    → Runs wrapped_sum list split (front_at (dyadic_item Plus) list split)
small_fronts_run list split whole some small =
    let last : split.along - 1 < split.along = omega arith in
    let runs = runs_by_steps (dyadic_item Plus) list split whole some (steps_of_sums list split (λ outer inner p q. line_is_small list split outer inner (split.along - 1) small whole p q last)) in
    let once = mul-le small.0 1 small.0 split.along (le_refl small.0) (omega (arith, some)) in
    record {
      first = runs.first;
      next = λ outer at p past below.
          let place : ℕ = outer * row_length split + at in
          let inside : place < length list = row_place split (length list) outer at whole p below in
          let now = small_fronts list split whole small place inside in
          let was = small_fronts list split whole small (place - split.inner) (omega (arith, inside)) in
          let number = All-get_or (λ number. unsigned_abs number ≤ small.0) list place (pos 0) inside small.1 in
          now.1
          ∙ joined_uncut (front_at (dyadic_item Plus) list split (place - split.inner)) (slice_get list place) was.0 (get_or list place (pos 0)) now.0 was.1 (slice_get-get_or list place (pos 0) inside)
          (sym (runs.next outer at p past below) ∙ now.1) was.2 (omega (arith, number, once, small.2)) now.2;
    }

-- the sum of two numbers of at most 62 bits is not cut
pub small_pair : (a b : List ℤ) (row column : ℕ) → AreSmall a 2 → AreSmall b 2 → row < length a → column < length b
    → Some (int_wrapping_add w64 (slice_index_or a row (pos 0)) (slice_index_or b column (pos 0))) ≡ dyadic_item Plus (slice_index_or a row (pos 0)) (slice_index_or b column (pos 0))
small_pair a b row column left right p q =
    let x = slice_index_or a row (pos 0) in
    let y = slice_index_or b column (pos 0) in
    let low_x = All-get_or (λ number. unsigned_abs number ≤ left.0) a row (pos 0) p left.1 in
    let low_y = All-get_or (λ number. unsigned_abs number ≤ right.0) b column (pos 0) q right.1 in
    let both = sums.bound x y left.0 right.0 low_x low_y in
    let few : left.0 + right.0 < 2 ^ 63 = omega (arith, left.2, right.2) in
    ap Some (not_cut x y (x +ℤ y) (omega (arith, low_x, left.2)) (omega (arith, low_y, right.2)) (omega (arith, both, few)) refl) ∙ sym (where_fits (x +ℤ y) (fits_below (x +ℤ y) (left.0 + right.0) both few))

abbrev value_of : Option ℤ → ℤ
value_of (Some x) = x
value_of None = pos 0

same_some : (a b : ℤ) → Some a ≡ Some b → a ≡ b
same_some a b e = ap value_of e

-- a line of which each item stands behind the one before
pub lone_place : (outer along inner k : ℕ) → inner ≡ 1 → outer * along + k ≡ (outer * along + k) * inner + 0
lone_place outer along inner k lone = rw lone (omega arith)

-- the sum of a line, and of one number more
pub first_sum : (list : List ℤ) (split : Split) (outer : ℕ) (number : ℤ) → number ≡ slice_index_or list (place_along split outer 0 0) (pos 0) → Some number ≡ front_of_line (dyadic_item Plus) list split outer 0 0
first_sum list split outer number is = ap Some is

pub one_sum_more : (list : List ℤ) (split : Split) (outer along : ℕ) (sum number : ℤ) → split_count split ≡ length list → 0 < split.inner → outer < split.outer → along + 1 < split.along → AreSmall list split.along
    → Some sum ≡ front_of_line (dyadic_item Plus) list split outer 0 along → number ≡ slice_index_or list (place_along split outer (along + 1) 0) (pos 0)
    → Some (int_wrap w64 (sum +ℤ number)) ≡ front_of_line (dyadic_item Plus) list split outer 0 (along + 1)
one_sum_more list split outer along sum number whole q p inside small so_far is =
    let by = dyadic_item Plus in
    let last : split.along - 1 < split.along = omega arith in
    let steps = steps_of_sums list split (λ o i a b. line_is_small list split o i (split.along - 1) small whole a b last) in
    let was = small_front list split outer 0 along whole small p q (omega arith) in
    let now = small_front list split outer 0 (along + 1) whole small p q inside in
    let place : ℕ = place_along split outer (along + 1) 0 in
    let below : place < length list = (let low = place_along_below split outer (along + 1) 0 p inside q in omega (arith, low, whole)) in
    let each = All-get_or (λ n. unsigned_abs n ≤ small.0) list place (pos 0) below small.1 in
    let once = mul-le small.0 1 small.0 split.along (le_refl small.0) (omega arith) in
    let here : unsigned_abs number < 2 ^ 63 = (let same = ap unsigned_abs is in omega (arith, same, each, once, small.2)) in
    let before : unsigned_abs sum < 2 ^ 63 = (let same = ap unsigned_abs (same_some sum was.0 (so_far ∙ was.1)) in omega (arith, same, was.2)) in
    let both : joined by (Some sum) (Some number) ≡ Some now.0 =
    ap (λ (o : Option ℤ). joined by o (Some number)) so_far ∙ ap (λ (n : ℤ). joined by (front_of_line by list split outer 0 along) (Some n)) is ∙ sym (steps.step outer 0 along p q inside) ∙ now.1 in
    ap Some (sym (wrapping_add_is w64 sum number (fits_signed_from_abs w64 sum before) (fits_signed_from_abs w64 number here))) ∙ sym (joined_uncut (Some sum) (Some number) sum number now.0 refl refl both before here now.2) ∙ sym now.1
