-- A shape has no fault exactly where it is within the limits.
use Rattle.std.proofs.Common.{◌≡◌, ℕ, ◌≤◌, Bool, true, false, cond, ltb, ◌&&◌, List, [], ◌∷◌, Option, Some, None, length, refl, sym, ap, ◌∙◌, arith}
use Rattle.std.specs.List.{list_all, All}
use Rattle.std.proofs.lemmas.Bool.{and_parts, and_from, leb-true, le-leb, ltb-false, both_ways}
use Rattle.std.proofs.lemmas.Bool.Decides.{nat_tests}
use Rattle.std.proofs.lemmas.List.Elements.{All-nil, All-cons, All-head, All-tail}
use Rattle.apl_arrays.specs.Array.{element_count, FitsLimits}
use Rattle.apl_arrays.specs.Shape.{is_small, shape_fault}
use Rattle.apl_arrays.specs.declared.array.ShapeFault.{ShapeFault}
use Rattle.apl_arrays.specs.declared.array.ShapeFault.TheVariants.{Rank, Size}

all_small : (shape : List ℕ) → list_all is_small shape ≡ true → All (λ axis. axis ≤ 16384) shape
all_small [] e = All-nil (λ axis. axis ≤ 16384)
all_small (axis ∷ axes) e =
    let parts = and_parts (is_small axis) (list_all is_small axes) e in
    All-cons (λ n. n ≤ 16384) axis axes (leb-true axis 16384 parts.0) (all_small axes parts.1)

small_all : (shape : List ℕ) → All (λ axis. axis ≤ 16384) shape → list_all is_small shape ≡ true
small_all [] h = refl
small_all (axis ∷ axes) h =
    and_from (is_small axis) (list_all is_small axes) (le-leb axis 16384 (All-head (λ n. n ≤ 16384) axis axes h)) (small_all axes (All-tail (λ n. n ≤ 16384) axis axes h))

-- the tests of a shape
long : List ℕ → Bool
long shape = ltb 8 (length shape)

small : List ℕ → Bool
small shape = list_all is_small shape && is_small (element_count shape)

pub by_tests : Bool → Bool → Option ShapeFault
by_tests over within = cond over (Some Rank) (cond within None (Some Size))

fits_by_tests : (shape : List ℕ) → long shape ≡ false → small shape ≡ true → FitsLimits shape
unfolding long small
fits_by_tests shape short within =
    let parts = and_parts (list_all is_small shape) (is_small (element_count shape)) within in
    record { rank = ltb-false 8 (length shape) short; axes = all_small shape parts.0; elements = leb-true (element_count shape) 16384 parts.1 }

tests_of_fit : (shape : List ℕ) → FitsLimits shape → (long shape ≡ false) × (small shape ≡ true)
unfolding long small
tests_of_fit shape fits =
    let axes : ℕ = length shape in
    let rank : axes ≤ 8 = fits.rank in
    let short : ltb 8 axes ≡ false = grind (arith, nat_tests) in
    (short, and_from (list_all is_small shape) (is_small (element_count shape)) (small_all shape fits.axes) (le-leb (element_count shape) 16384 fits.elements))

none_by : (over within : Bool) → by_tests over within ≡ None → (over ≡ false) × (within ≡ true)
unfolding by_tests
none_by true within e = cc
none_by false true e = (refl, refl)
none_by false false e = cc

size_by : (over within : Bool) → by_tests over within ≡ Some Size → (over ≡ false) × (within ≡ false)
unfolding by_tests
size_by true within e = cc
size_by false true e = cc
size_by false false e = (refl, refl)

is_by_tests : (shape : List ℕ) → shape_fault shape ≡ by_tests (long shape) (small shape)
unfolding by_tests long small
is_by_tests shape = refl

pub no_fault_fits : (shape : List ℕ) → shape_fault shape ≡ None → FitsLimits shape
no_fault_fits shape e =
    let tests = none_by (long shape) (small shape) (sym (is_by_tests shape) ∙ e) in
    fits_by_tests shape tests.0 tests.1

pub what_fits_has_no_fault : (shape : List ℕ) → FitsLimits shape → shape_fault shape ≡ None
unfolding by_tests
what_fits_has_no_fault shape fits =
    let tests = tests_of_fit shape fits in
    is_by_tests shape ∙ (ap (λ over. by_tests over (small shape)) tests.0 ∙ ap (λ within. by_tests false within) tests.1)

pub size_is_too_large : (shape : List ℕ) → shape_fault shape ≡ Some Size → (length shape ≤ 8) × (FitsLimits shape → ⊥)
unfolding long small
size_is_too_large shape e =
    let tests = size_by (long shape) (small shape) (sym (is_by_tests shape) ∙ e) in
    (ltb-false 8 (length shape) tests.0, λ fits. both_ways (small shape) tests.1 (tests_of_fit shape fits).1)

small_or_not : (b : Bool) → ((b ≡ true) → ⊥) → b ≡ false
small_or_not true h = absurd (h refl)
small_or_not false h = refl

pub too_large_by_size : (shape : List ℕ) → length shape ≤ 8 → (FitsLimits shape → ⊥) → shape_fault shape ≡ Some Size
unfolding by_tests long
too_large_by_size shape rank no_fit =
    let axes : ℕ = length shape in
    let short : ltb 8 axes ≡ false = grind (arith, nat_tests) in
    let large : small shape ≡ false = small_or_not (small shape) (λ within. no_fit (fits_by_tests shape short within)) in
    is_by_tests shape ∙ (ap (λ over. by_tests over (small shape)) short ∙ ap (λ within. by_tests false within) large)
