-- Lengths that are capped pass the limits exactly where the numbers do.
use Rattle.std.proofs.Common.{◌≡◌, ℕ, ℤ, ◌≤◌, ◌&&◌, Bool, true, false, cond, nat_lt, List, [], ◌∷◌, Some, None, is_some, length, min, unsigned_abs, refl, sym, ap, subst, ◌∙◌, arith}
use Rattle.std.specs.List.{All, list_all}
use Rattle.std.proofs.lemmas.Bool.{and_parts}
use Rattle.std.proofs.lemmas.Bool.Decides.{nat_tests}
use Rattle.std.proofs.lemmas.List.{length-map}
use Rattle.std.proofs.lemmas.List.Elements.{All-head, All-tail}
use Rattle.apl_arrays.specs.declared.array.ShapeFault.TheVariants.{Rank, Size}
use Rattle.apl_arrays.specs.Array.{FitsLimits, element_count}
use Rattle.apl_arrays.specs.Shape.{is_small, shape_fault}
use Rattle.apl_arrays.proofs.Shapes.{no_fault_fits}
use Rattle.apl_structure.specs.Lengths.{capped_lengths, lengths}
use Rattle.apl_selection.proofs.FaultLemmas.{none_from}

small_when_capped : (n : ℕ) → is_small (min n 16385) ≡ is_small n
small_when_capped n = grind (arith, nat_tests)

all_small : (numbers : List ℤ) → list_all is_small (capped_lengths numbers) ≡ list_all is_small (lengths numbers)
all_small [] = refl
all_small (x ∷ xs) =
    ap (λ (b : Bool). b && list_all is_small (capped_lengths xs)) (small_when_capped (unsigned_abs x)) ∙ ap (λ (b : Bool). is_small (unsigned_abs x) && b) (all_small xs)

small_itself : (n : ℕ) → is_small n ≡ true → min n 16385 ≡ n
small_itself n e = grind (arith, nat_tests)

small_lengths : (numbers : List ℤ) → list_all is_small (lengths numbers) ≡ true → capped_lengths numbers ≡ lengths numbers
small_lengths [] e = refl
small_lengths (x ∷ xs) e =
    let parts = and_parts (is_small (unsigned_abs x)) (list_all is_small (lengths xs)) e in
    ap (λ (n : ℕ). n ∷ capped_lengths xs) (small_itself (unsigned_abs x) parts.0) ∙ ap (λ (rest : List ℕ). unsigned_abs x ∷ rest) (small_lengths xs parts.1)

pub same_rank : (numbers : List ℤ) → length (capped_lengths numbers) ≡ length (lengths numbers)
same_rank numbers = length-map numbers (λ number. min (unsigned_abs number) 16385) ∙ sym (length-map numbers unsigned_abs)

faulty_by : (over_a over_b all_a all_b few_a few_b : Bool) → over_a ≡ over_b → all_a ≡ all_b → (all_b ≡ true → few_a ≡ few_b)
    → is_some (cond over_a (Some Rank) (cond (all_a && few_a) None (Some Size))) ≡ is_some (cond over_b (Some Rank) (cond (all_b && few_b) None (Some Size)))
faulty_by over_a over_b all_a true few_a few_b p q r = rw (p, q, r refl) refl
faulty_by over_a over_b all_a false few_a few_b p q r = rw (p, q) refl

pub faulty_when_capped : (numbers : List ℤ) → is_some (shape_fault (capped_lengths numbers)) ≡ is_some (shape_fault (lengths numbers))
faulty_when_capped numbers =
    faulty_by (nat_lt 8 (length (capped_lengths numbers))) (nat_lt 8 (length (lengths numbers))) (list_all is_small (capped_lengths numbers)) (list_all is_small (lengths numbers))
    (is_small (element_count (capped_lengths numbers))) (is_small (element_count (lengths numbers))) (ap (nat_lt 8) (same_rank numbers)) (all_small numbers)
    (λ e. ap (λ (xs : List ℕ). is_small (element_count xs)) (small_lengths numbers e))

uncapped : (numbers : List ℤ) → All (λ n. n ≤ 16384) (lengths numbers) → capped_lengths numbers ≡ lengths numbers
uncapped [] h = refl
uncapped (x ∷ xs) h =
    let first = All-head (λ n. n ≤ 16384) (unsigned_abs x) (lengths xs) h in
    let rest = uncapped xs (All-tail (λ n. n ≤ 16384) (unsigned_abs x) (lengths xs) h) in
    let same : min (unsigned_abs x) 16385 ≡ unsigned_abs x = omega arith in
    ap (λ (n : ℕ). n ∷ capped_lengths xs) same ∙ ap (λ (axes : List ℕ). unsigned_abs x ∷ axes) rest

-- lengths within the limits are not capped, and fit
pub lengths_that_fit : (numbers : List ℤ) (shape : List ℕ) → shape ≡ capped_lengths numbers → is_some (shape_fault (lengths numbers)) ≡ false → (shape ≡ lengths numbers) × FitsLimits shape
lengths_that_fit numbers shape e none =
    let fits = no_fault_fits (lengths numbers) (none_from (shape_fault (lengths numbers)) none) in
    let same = e ∙ uncapped numbers fits.axes in
    (same, subst FitsLimits (sym same) fits)
