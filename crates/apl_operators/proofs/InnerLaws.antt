-- An inner product of two vectors is the reduction of their pairs.
use Rattle.std.proofs.Common.{◌≡◌, ℕ, ℤ, zero, suc, pos, ◌+◌, ◌*◌, ◌/◌, ◌%◌, ◌<◌, ◌≤◌, ◌==◌, ◌&&◌, Bool, true, false, not, cond, List, [], ◌∷◌, Option, Some, None, length, option_map, refl, sym, ap, ◌∙◌, arith}
use Rattle.std.specs.Prelude.{slice_index_or}
use Rattle.std.proofs.lemmas.Bool.Decides.{nat_tests}
use Rattle.apl_arrays.specs.declared.items.Item.TheVariants.{Number}
use Rattle.apl_verbs.specs.declared.verb.Dyad.{Dyad}
use Rattle.apl_arrays.specs.declared.way.Way.TheVariants.{Last}
use Rattle.apl_arrays.specs.Array.{number_array, numbers}
use Rattle.apl_items.specs.Answers.{answer_of}
use Rattle.apl_items.specs.Extension.{number_at}
use Rattle.apl_items.specs.Places.{number_faults, numbers_by}
use Rattle.apl_scalar.specs.Table.{dyadic_item, row_of_dyad}
use Rattle.operator_rules.specs.Gathering.{numbers_answer}
use Rattle.operator_rules.specs.Inner.{ends_differ, inner_at, inner_product_of, pair_at, paired}
use Rattle.operator_rules.specs.Reduce.{reduce_of, reduced_line}
use Rattle.operator_rules.specs.Reduction.{number_on, reduction_of}
use Rattle.apl_operators.proofs.LineLemmas.{reduced_numbers}
use Rattle.apl_operators.proofs.NumberLemmas.{gathered_as_numbers}
use Rattle.apl_operators.proofs.RunLemmas.{lone, reduction_alike}

-- an answer of one number asks for the rule at its only place
lone_answer : (one other : ℕ → Option ℤ) → one 0 ≡ other 0 → numbers_answer [] one ≡ numbers_answer [] other
lone_answer one other e = rw e refl

reduced_as_number : (f : Dyad) (list : List ℤ) (n line : ℕ)
    → reduced_line f (numbers list) (lone n) line ≡ option_map Number (reduction_of (dyadic_item f) (row_of_dyad f).identity (number_on list (lone n) (line / 1) (line % 1)) n)
reduced_as_number f list zero line = refl
reduced_as_number f list (suc n) line = reduced_numbers f (number_on list (lone (suc n)) (line / 1) (line % 1)) 0 n

-- a reduction of a vector, by the numbers that it joins
vector_reduced : (f : Dyad) (list : List ℤ) (n : ℕ)
    → reduce_of f (number_array (n ∷ []) list) Last None ≡ numbers_answer [] (λ line. reduction_of (dyadic_item f) (row_of_dyad f).identity (number_on list (lone n) (line / 1) (line % 1)) n)
vector_reduced f list n = gathered_as_numbers [] (reduced_line f (numbers list) (lone n)) _ (λ line. reduced_as_number f list n line)

place_below_count : (count place : ℕ) (one : Bool) → (count == 1) ≡ one → place < count → cond one 0 place ≡ place
place_below_count count place true e below = let is : count ≡ 1 = grind (arith, nat_tests) in omega arith
place_below_count count place false e below = refl

number_there : (list : List ℤ) (n place at : ℕ) → length list ≡ n → at ≡ place → place < n → number_at list at ≡ slice_index_or list place (pos 0)
number_there list n place at long is below =
    ap (λ (p : ℕ). number_at list p) is ∙ ap (λ (p : ℕ). slice_index_or list p (pos 0)) (place_below_count (length list) place (length list == 1) refl (omega (arith, long)))

either_way : (test : Bool) (n : ℕ) → cond test n n ≡ n
either_way true n = refl
either_way false n = refl

same_count : (n : ℕ) → (n == n) ≡ true
same_count n = grind (arith, nat_tests)

no_difference : (a b : Bool) → (a && b && false) ≡ false
no_difference true true = refl
no_difference true false = refl
no_difference false b = refl

ends_meet : (n : ℕ) (xs ys : List ℤ) → ends_differ (number_array (n ∷ []) xs) (number_array (n ∷ []) ys) ≡ false
ends_meet n xs ys = rw (same_count n) (no_difference (not (length xs == 1)) (not (length ys == 1)))

-- the numbers zs are those of xs and ys, pair by pair
pub record ArePairs (g : Dyad) (xs ys zs : List ℤ) (n : ℕ) : Type 0 where
  pub left : length xs ≡ n
  pub right : length ys ≡ n
  pub pair : (k : ℕ) → k < n → dyadic_item g (slice_index_or xs k (pos 0)) (slice_index_or ys k (pos 0)) ≡ Some (slice_index_or zs k (pos 0))

pairs_alike : (f g : Dyad) (xs ys zs : List ℤ) (n : ℕ) → ArePairs g xs ys zs n
    → reduction_of (dyadic_item f) (row_of_dyad f).identity (pair_at g (numbers xs) (numbers ys) n 1 0) n ≡ reduction_of (dyadic_item f) (row_of_dyad f).identity (number_on zs (lone n) 0 0) n
pairs_alike f g xs ys zs zero pairs = refl
pairs_alike f g xs ys zs (suc m) pairs = reduction_alike (dyadic_item f) (pair_at g (numbers xs) (numbers ys) (suc m) 1 0) (number_on zs (lone (suc m)) 0 0) 0 m same
  where
    same : (j : ℕ) → j ≤ 0 + m → pair_at g (numbers xs) (numbers ys) (suc m) 1 0 j ≡ number_on zs (lone (suc m)) 0 0 j
    same j h =
        let below : j < suc m = omega arith in
        let p : 0 * suc m + j ≡ j = omega arith in
        let q : j * 1 + 0 ≡ j = omega arith in
        let r : (0 * suc m + j) * 1 + 0 ≡ j = omega arith in
        ap (λ (z : ℤ). dyadic_item g z (number_at ys (j * 1 + 0))) (number_there xs (suc m) j (0 * suc m + j) pairs.left p below)
        ∙ ap (λ (z : ℤ). dyadic_item g (slice_index_or xs j (pos 0)) z) (number_there ys (suc m) j (j * 1 + 0) pairs.right q below)
        ∙ pairs.pair j below ∙ sym (ap (λ (k : ℕ). Some (slice_index_or zs k (pos 0))) r)

pub products_of_vectors : (f g : Dyad) (xs ys zs : List ℤ) (n : ℕ) → length xs ≡ n → length ys ≡ n
    → ((k : ℕ) → k < n → dyadic_item g (slice_index_or xs k (pos 0)) (slice_index_or ys k (pos 0)) ≡ Some (slice_index_or zs k (pos 0)))
    → inner_product_of f g (number_array (n ∷ []) xs) (number_array (n ∷ []) ys) ≡ reduce_of f (number_array (n ∷ []) zs) Last None
products_of_vectors f g xs ys zs n left right pair =
    let a = number_array (n ∷ []) xs in
    let b = number_array (n ∷ []) ys in
    let rule : ℕ → ℕ → Option ℤ = λ count. inner_at f g (numbers xs) (numbers ys) count 1 in
    let long : paired a b ≡ n = either_way (length xs == 1) n in
    ap (λ (t : Bool). answer_of (record (number_faults [] (rule (paired a b))) { bad_length = t }) (numbers_by [] (rule (paired a b)))) (ends_meet n xs ys)
    ∙ ap (λ (count : ℕ). numbers_answer [] (rule count)) long
    ∙ lone_answer (rule n) (λ line. reduction_of (dyadic_item f) (row_of_dyad f).identity (number_on zs (lone n) (line / 1) (line % 1)) n) (pairs_alike f g xs ys zs n (record { left = left; right = right; pair = pair }))
    ∙ sym (vector_reduced f zs n)
