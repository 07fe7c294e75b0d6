-- A transpose by axes is within the limits where its argument is.
use Rattle.std.proofs.Common.{◌≡◌, ℕ, ℤ, zero, suc, ◌+◌, ◌-◌, ◌*◌, ◌<◌, ◌≤◌, ◌==◌, ◌||◌, Bool, true, false, not, cond, min, nat_lt, List, [], ◌∷◌, map, Some, length, unsigned_abs, refl, sym, ap, subst, ◌∙◌, arith}
use Rattle.std.specs.Int.{is_negative}
use Rattle.std.specs.List.{list_any, range_with_len}
use Rattle.std.proofs.Math.Nat.{le-mul_of_pos_right}
use Rattle.std.proofs.lemmas.Bool.Decides.{nat_tests}
use Rattle.std.proofs.lemmas.List.{length-map}
use Rattle.std.proofs.lemmas.List.Elements.{All-from_get_or}
use Rattle.std.proofs.lemmas.List.FromFn.{get_or-map-range_with_len, length-map-range_with_len}
use Rattle.std.proofs.lemmas.Nat.{mul-le}
use Rattle.apl_arrays.specs.Array.{FitsLimits, element_count}
use Rattle.apl_items.specs.Axis.{lacks_axis}
use Rattle.apl_items.specs.Places.{places}
use Rattle.apl_items.proofs.PlaceLemmas.{list_any-places}
use Rattle.apl_items.proofs.ShapeLemmas.{element_count-cons}
use Rattle.apl_selection.proofs.IndexLemmas.{none_first, number_inside}
use Rattle.apl_selection.proofs.MoveLemmas.{same_map}
use Rattle.apl_structure.specs.Diagonals.{axes_named, axis_count, diagonal_shape, least_length, leaves_gap}
use Rattle.apl_structure.proofs.DiagonalLemmas.{AreAxes}
use Rattle.apl_structure.proofs.TakeLemmas.{no_more_elements}

-- ---- its axes

axes_upto : (numbers : List ℤ) (rank : ℕ) → list_any (λ number. lacks_axis rank (Some number)) numbers ≡ false → axis_count (axes_named numbers) ≤ rank
axes_upto [] rank none = omega arith
axes_upto (x ∷ xs) rank none =
    let parts = none_first (lacks_axis rank (Some x)) (list_any (λ number. lacks_axis rank (Some number)) xs) none in
    let rest = axes_upto xs rank parts.1 in
    let here = number_inside (is_negative x) (unsigned_abs x == 0) (nat_lt rank (unsigned_abs x)) (unsigned_abs x) rank (unsigned_abs x - 1) parts.0 refl refl refl in
    omega arith

least_small : (axes shape : List ℕ) (axis : ℕ) → least_length axes shape axis ≤ 16384
least_small [] shape axis = omega arith
least_small (named ∷ axes) [] axis = omega arith
least_small (named ∷ axes) (long ∷ shape) axis = by_test (named == axis) (least_length axes shape axis) (least_small axes shape axis)
  where
    by_test : (here : Bool) (least : ℕ) → least ≤ 16384 → cond here (min long least) least ≤ 16384
    by_test true least h = omega arith
    by_test false least h = h

-- ---- its elements

-- the least length of the axes that become one, or 1 where none does
abbrev factor : List ℕ → List ℕ → ℕ → ℕ
factor axes shape axis = cond (list_any (λ named. named == axis) axes) (least_length axes shape axis) 1

least_by_product : (long least : ℕ) → min long least ≤ long * least
least_by_product long zero = omega arith
least_by_product long (suc least) = let grows = le-mul_of_pos_right {m = suc least} long (omega arith) in omega arith

factor_by : (here named : Bool) (long least : ℕ) → cond (here || named) (cond here (min long least) least) 1 ≤ cond here (long * cond named least 1) (cond named least 1)
factor_by true true long least = least_by_product long least
factor_by true false long least = omega arith
factor_by false true long least = omega arith
factor_by false false long least = omega arith

-- a product of which no factor passes that of another
products_upto : (f g : ℕ → ℕ) (n : ℕ) → ((k : ℕ) → f k ≤ g k) → element_count (map f (places n)) ≤ element_count (map g (places n))
products_upto f g n upto =
    let first = length-map-range_with_len f 0 n in
    let second = length-map-range_with_len g 0 n in
    no_more_elements (map f (places n)) (map g (places n)) (omega arith)
    (λ k h. let here = get_or-map-range_with_len f 0 n k k 0 (omega arith) (omega arith) in
    let there = get_or-map-range_with_len g 0 n k k 0 (omega arith) (omega arith) in let low = upto k in omega arith)

ones_product : (first n : ℕ) → element_count (map (λ k. 1) (range_with_len first n)) ≡ 1
ones_product first zero = refl
ones_product first (suc n) = let rest = ones_product (first + 1) n in element_count-cons 1 (map (λ k. 1) (range_with_len (first + 1) n)) ∙ (omega arith)

apart : (m n : ℕ) → m < n → (m == n) ≡ false
apart m n h = grind (arith, nat_tests)

-- behind the axis no factor grows
product_past : (f : ℕ → ℕ) (axis times first n : ℕ) → axis < first
    → element_count (map (λ k. cond (axis == k) (times * f k) (f k)) (range_with_len first n)) ≡ element_count (map f (range_with_len first n))
product_past f axis times first zero past = refl
product_past f axis times first (suc n) past =
    let grown : ℕ → ℕ = λ k. cond (axis == k) (times * f k) (f k) in
    element_count-cons (grown first) (map grown (range_with_len (first + 1) n))
    ∙ ap (λ (b : Bool). cond b (times * f first) (f first) * element_count (map grown (range_with_len (first + 1) n))) (apart axis first past)
    ∙ ap (λ (m : ℕ). f first * m) (product_past f axis times (first + 1) n (omega arith)) ∙ sym (element_count-cons (f first) (map f (range_with_len (first + 1) n)))

-- a product of which one factor grows
product_grown : (f : ℕ → ℕ) (axis times first n : ℕ) → first ≤ axis → axis < first + n
    → element_count (map (λ k. cond (axis == k) (times * f k) (f k)) (range_with_len first n)) ≡ times * element_count (map f (range_with_len first n))
product_grown f axis times first zero from upto = absurd (omega arith)
product_grown f axis times first (suc n) from upto = element_count-cons (grown first) (map grown (range_with_len (first + 1) n)) ∙ by_test (axis == first) refl (product_grown f axis times (first + 1) n)
  where
    grown : ℕ → ℕ
    grown = λ k. cond (axis == k) (times * f k) (f k)

    turned : (a b c : ℕ) → a * (b * c) ≡ b * (a * c)
    turned a b c = omega arith

    grouped : (a b c : ℕ) → (b * a) * c ≡ b * (a * c)
    grouped a b c = omega arith

    by_test : (here : Bool) → (axis == first) ≡ here → ((first + 1 ≤ axis) → axis < (first + 1) + n → element_count (map grown (range_with_len (first + 1) n)) ≡ times * element_count (map f (range_with_len (first + 1) n)))
        → cond here (times * f first) (f first) * element_count (map grown (range_with_len (first + 1) n)) ≡ times * element_count (map f (range_with_len first (suc n)))
    by_test true e later =
        let same : axis ≡ first = grind (arith, nat_tests) in
        ap (λ (m : ℕ). times * f first * m) (product_past f axis times (first + 1) n (omega arith)) ∙ grouped (f first) times (element_count (map f (range_with_len (first + 1) n)))
        ∙ ap (λ (m : ℕ). times * m) (sym (element_count-cons (f first) (map f (range_with_len (first + 1) n))))
    by_test false e later =
        let behind : first < axis = grind (arith, nat_tests) in
        ap (λ (m : ℕ). f first * m) (later (omega arith) (omega arith)) ∙ turned (f first) times (element_count (map f (range_with_len (first + 1) n)))
        ∙ ap (λ (m : ℕ). times * m) (sym (element_count-cons (f first) (map f (range_with_len (first + 1) n))))

elements_upto : (axes shape : List ℕ) (n : ℕ) → length axes ≡ length shape → axis_count axes ≤ n → element_count (map (factor axes shape) (places n)) ≤ element_count shape
elements_upto [] [] n e few = let one = ones_product 0 n in omega arith
elements_upto [] (long ∷ shape) n e few = absurd (omega arith)
elements_upto (named ∷ axes) [] n e few = absurd (omega arith)
elements_upto (named ∷ axes) (long ∷ shape) n e few =
    let rest = elements_upto axes shape n (omega arith) (omega arith) in
    let grown = product_grown (factor axes shape) named long 0 n (omega arith) (omega arith) in
    let upto = products_upto (factor (named ∷ axes) (long ∷ shape)) (λ k. cond (named == k) (long * factor axes shape k) (factor axes shape k)) n
    (λ k. factor_by (named == k) (list_any (λ other. other == k) axes) long (least_length axes shape k)) in
    let whole = element_count-cons long shape in
    let bound = mul-le long (element_count (map (factor axes shape) (places n))) long (element_count shape) (omega arith) rest in
    omega arith

not_false : (x : Bool) → not x ≡ false → x ≡ true
not_false true e = refl
not_false false e = absurd (cc)

-- no gap is left, so that each axis is named
each_named : (axes : List ℕ) (axis : ℕ) → leaves_gap axes ≡ false → axis < axis_count axes → list_any (λ named. named == axis) axes ≡ true
each_named axes axis whole h = not_false (list_any (λ named. named == axis) axes) (by_test (not (list_any (λ named. named == axis) axes)) refl)
  where
    by_test : (gap : Bool) → not (list_any (λ named. named == axis) axes) ≡ gap → gap ≡ false
    by_test false e = refl
    by_test true e = absurd (let found = list_any-places (λ axis. not (list_any (λ named. named == axis) axes)) (axis_count axes) axis h e in cc)

pub diagonal_fits : (numbers : List ℤ) (shape : List ℕ) → FitsLimits shape → AreAxes numbers (length shape) → FitsLimits (diagonal_shape (axes_named numbers) shape)
diagonal_fits numbers shape fits are =
    let axes : List ℕ = axes_named numbers in
    let count : ℕ = axis_count axes in
    let upto = axes_upto numbers (length shape) are.each in
    let many : length axes ≡ length shape = length-map numbers (λ number. unsigned_abs number - 1) ∙ are.many in
    let rank = length-map-range_with_len (least_length axes shape) 0 count in
    let named : map (least_length axes shape) (places count) ≡ map (factor axes shape) (places count) =
    same_map (least_length axes shape) (factor axes shape) count (λ k h. sym (ap (λ (b : Bool). cond b (least_length axes shape k) 1) (each_named axes k are.whole h))) in
    let elements = elements_upto axes shape count many (omega arith) in record {
      rank = omega (arith, fits.rank);
      axes = All-from_get_or (λ n. n ≤ 16384) (diagonal_shape axes shape) 0
          (λ k h. let at = get_or-map-range_with_len (least_length axes shape) 0 count k k 0 (omega arith) (omega arith) in let small = least_small axes shape k in omega arith);
      elements = subst (λ (xs : List ℕ). element_count xs ≤ 16384) (sym named) (let few = fits.elements in omega arith);
    }
