-- The rows of one array, the columns of another, and the items that they pair.
use Rattle.std.proofs.Common.{◌≡◌, ℕ, zero, suc, ◌+◌, ◌-◌, ◌*◌, ◌<◌, ◌≤◌, ◌++◌, ◌==◌, ◌⊎◌, inl, inr, All, Bool, true, false, not, List, [], ◌∷◌, length, drop, get_or, refl, sym, ap, subst, ◌∙◌, arith}
use Rattle.std.specs.Prelude.{if◌then◌else◌}
use Rattle.std.proofs.Math.Nat.{mul_comm, le-mul_of_pos_right}
use Rattle.std.proofs.lemmas.Bool.{cases_Bool, false≢true}
use Rattle.std.proofs.lemmas.Bool.Decides.{nat_tests}
use Rattle.std.proofs.lemmas.List.{get_or_default, length-take, length-drop, drop_all}
use Rattle.std.proofs.lemmas.List.Elements.{All-append, All-get_or, All-take, All-drop}
use Rattle.apl_arrays.specs.Array.{FitsLimits, IsArray, PlainArray, element_count, item_count}
use Rattle.apl_items.specs.Extension.{Reaches, is_single, place_in}
use Rattle.apl_items.proofs.ShapeLemmas.{element_count-append, element_count-cons, split_count_lem}
use Rattle.operator_rules.specs.Inner.{ends_differ, first_length, front, last_length, paired}

-- an array has as many elements as rows of its last axis, and as columns of its first
front_count : (shape : List ℕ) → element_count (front shape) * last_length shape ≡ element_count shape
front_count [] = refl
front_count (n ∷ rest) =
    let shape = n ∷ rest in
    let count = split_count_lem shape (length shape - 1) (omega arith) in
    let none : drop (length shape - 1 + 1) shape ≡ [] = ap (λ (k : ℕ). drop k shape) (let all : length shape - 1 + 1 ≡ length shape = omega arith in all) ∙ drop_all (length shape) shape (omega arith) in
    let one : element_count (drop (length shape - 1 + 1) shape) ≡ 1 = ap element_count none in
    let last : last_length shape ≡ get_or shape (length shape - 1) 0 = get_or_default shape (length shape - 1) 1 0 (omega arith) in
    ap (λ (m : ℕ). element_count (front shape) * m) last
    ∙ by_one (element_count (front shape) * get_or shape (length shape - 1) 0) (element_count (drop (length shape - 1 + 1) shape)) (element_count shape) one count
  where
    by_one : (a b c : ℕ) → b ≡ 1 → a * b ≡ c → a ≡ c
    by_one a b c e is = let same : a * 1 ≡ c = ap (λ (m : ℕ). a * m) (sym e) ∙ is in omega (arith, same)

first_count : (shape : List ℕ) → first_length shape * element_count (drop 1 shape) ≡ element_count shape
first_count [] = refl
first_count (n ∷ rest) = sym (element_count-cons n rest)

some_factors : (a b : ℕ) → a * b ≡ 1 → (0 < a) × (0 < b)
some_factors zero b e = absurd (let none : zero * b ≡ 0 = omega arith in omega (arith, none))
some_factors (suc a) zero e = absurd (omega arith)
some_factors (suc a) (suc b) e = (omega arith, omega arith)

-- an array of one element has one item
single_count : (a : PlainArray) → IsArray a → is_single a ≡ true → element_count a.shape ≡ 1
single_count a is_a single = is_a.whole ∙ one (item_count a.items) single
  where
    one : (n : ℕ) → (n == 1) ≡ true → n ≡ 1
    one n h = grind (arith, nat_tests)

-- what is known of two arrays that fit and have pairs
pub record Fit (a b : PlainArray) : Type 0 where
  pub last : 0 < last_length a.shape
  pub first : 0 < first_length b.shape
  pub rows : is_single a ≡ false → last_length a.shape ≡ paired a b
  pub columns : is_single b ≡ false → first_length b.shape ≡ paired a b

equal_ends : (m n : ℕ) → not (m == n) ≡ false → m ≡ n
equal_ends m n h = grind (arith, nat_tests)

pub fit_arrays : (a b : PlainArray) → IsArray a → IsArray b → ends_differ a b ≡ false → (paired a b ≡ 0 → ⊥) → Fit a b
fit_arrays a b is_a is_b fit some = by_cases (cases_Bool (is_single a)) (cases_Bool (is_single b))
  where
    lone_last : is_single a ≡ true → 0 < last_length a.shape
    lone_last single = (some_factors (element_count (front a.shape)) (last_length a.shape) (front_count a.shape ∙ single_count a is_a single)).1

    lone_first : is_single b ≡ true → 0 < first_length b.shape
    lone_first single = (some_factors (first_length b.shape) (element_count (drop 1 b.shape)) (first_count b.shape ∙ single_count b is_b single)).0

    from_first : is_single a ≡ true → paired a b ≡ first_length b.shape
    from_first single = ap (λ (t : Bool). if t then first_length b.shape else last_length a.shape) single

    from_last : is_single a ≡ false → paired a b ≡ last_length a.shape
    from_last many = ap (λ (t : Bool). if t then first_length b.shape else last_length a.shape) many

    positive : (n : ℕ) → (n ≡ 0 → ⊥) → 0 < n
    positive n h = omega arith

    by_cases : (is_single a ≡ true) ⊎ (is_single a ≡ false) → (is_single b ≡ true) ⊎ (is_single b ≡ false) → Fit a b
    by_cases (inl p) q = record {
      last = lone_last p;
      first = positive (first_length b.shape) (λ e. some (from_first p ∙ e));
      rows = λ many. absurd (false≢true (sym many ∙ p));
      columns = λ many. sym (from_first p);
    }
    by_cases (inr p) (inl q) = record {
      last = positive (last_length a.shape) (λ e. some (from_last p ∙ e));
      first = lone_first q;
      rows = λ many. sym (from_last p);
      columns = λ many. absurd (false≢true (sym many ∙ q));
    }
    by_cases (inr p) (inr q) =
        let same : last_length a.shape ≡ first_length b.shape = equal_ends (last_length a.shape) (first_length b.shape) (rw (p, q) at fit) in
        record {
          last = positive (last_length a.shape) (λ e. some (from_last p ∙ e));
          first = positive (first_length b.shape) (λ e. some (from_last p ∙ same ∙ e));
          rows = λ many. sym (from_last p);
          columns = λ many. sym same ∙ sym (from_last p);
        }

no_less : (a b total : ℕ) → a * b ≡ total → 0 < b → a ≤ total
no_less a b total e some = omega (arith, le-mul_of_pos_right {m = b} a some, e)

pub front_fits : (shape : List ℕ) → FitsLimits shape → 0 < last_length shape → FitsLimits (front shape)
front_fits shape fits some = record {
  rank = omega (arith, fits.rank, length-take (length shape - 1) shape);
  axes = All-take (λ n. n ≤ 16384) (length shape - 1) shape fits.axes;
  elements = omega (arith, fits.elements, no_less (element_count (front shape)) (last_length shape) (element_count shape) (front_count shape) some);
}

pub rest_fits : (shape : List ℕ) → FitsLimits shape → 0 < first_length shape → FitsLimits (drop 1 shape)
rest_fits shape fits some = record {
  rank = omega (arith, fits.rank, length-drop 1 shape);
  axes = All-drop (λ n. n ≤ 16384) 1 shape fits.axes;
  elements = omega (arith, fits.elements, no_less (element_count (drop 1 shape)) (first_length shape) (element_count shape) (mul_comm (element_count (drop 1 shape)) (first_length shape) ∙ first_count shape) some);
}

last_small : (shape : List ℕ) → FitsLimits shape → last_length shape ≤ 16384
last_small [] fits = omega arith
last_small (n ∷ rest) fits = All-get_or (λ n. n ≤ 16384) (n ∷ rest) (length (n ∷ rest) - 1) 1 (omega arith) fits.axes

first_small : (shape : List ℕ) → FitsLimits shape → first_length shape ≤ 16384
first_small [] fits = omega arith
first_small (n ∷ rest) fits = All-get_or (λ n. n ≤ 16384) (n ∷ rest) 0 1 (omega arith) fits.axes

pub paired_small : (a b : PlainArray) → IsArray a → IsArray b → paired a b ≤ 16384
paired_small a b is_a is_b = by_test (is_single a)
  where
    by_test : (t : Bool) → (if t then first_length b.shape else last_length a.shape) ≤ 16384
    by_test true = first_small b.shape is_b.fits
    by_test false = last_small a.shape is_a.fits

single_is : (n : ℕ) → (n == 1) ≡ true → n ≡ 1
single_is n h = grind (arith, nat_tests)

-- an array that extends, or has as many items as are paired, reaches all pairs
pub reaches_rows : (a b : PlainArray) → IsArray a → Fit a b → Reaches (item_count a.items) (element_count (front a.shape) * paired a b)
reaches_rows a b is_a fit place below = by_test (cases_Bool (item_count a.items == 1))
  where
    by_test : ((item_count a.items == 1) ≡ true) ⊎ ((item_count a.items == 1) ≡ false) → place_in (item_count a.items) place < item_count a.items
    by_test (inl e) = let one : item_count a.items ≡ 1 = single_is (item_count a.items) e in rw e (omega (arith, one))
    by_test (inr e) =
        let all : element_count (front a.shape) * paired a b ≡ item_count a.items = ap (λ (n : ℕ). element_count (front a.shape) * n) (sym (fit.rows e)) ∙ front_count a.shape ∙ is_a.whole in
        rw e (omega (arith, all, below))

pub reaches_columns : (a b : PlainArray) → IsArray b → Fit a b → Reaches (item_count b.items) (paired a b * element_count (drop 1 b.shape))
reaches_columns a b is_b fit place below = by_test (cases_Bool (item_count b.items == 1))
  where
    by_test : ((item_count b.items == 1) ≡ true) ⊎ ((item_count b.items == 1) ≡ false) → place_in (item_count b.items) place < item_count b.items
    by_test (inl e) = let one : item_count b.items ≡ 1 = single_is (item_count b.items) e in rw e (omega (arith, one))
    by_test (inr e) =
        let all : paired a b * element_count (drop 1 b.shape) ≡ item_count b.items = ap (λ (n : ℕ). n * element_count (drop 1 b.shape)) (sym (fit.columns e)) ∙ first_count b.shape ∙ is_b.whole in
        rw e (omega (arith, all, below))

pub product_count : (a b : PlainArray) (shape : List ℕ) → shape ≡ front a.shape ++ drop 1 b.shape → element_count (front a.shape) * element_count (drop 1 b.shape) ≡ element_count shape
product_count a b shape is = sym (element_count-append (front a.shape) (drop 1 b.shape)) ∙ ap element_count (sym is)

pub axes_small : (a b : PlainArray) (shape : List ℕ) → IsArray a → IsArray b → shape ≡ front a.shape ++ drop 1 b.shape → All (λ n. n ≤ 16384) shape
axes_small a b shape is_a is_b is =
    subst (λ (s : List ℕ). All (λ n. n ≤ 16384) s) (sym is)
    (All-append (λ n. n ≤ 16384) (front a.shape) (drop 1 b.shape) (All-take (λ n. n ≤ 16384) (length a.shape - 1) a.shape is_a.fits.axes) (All-drop (λ n. n ≤ 16384) 1 b.shape is_b.fits.axes))
