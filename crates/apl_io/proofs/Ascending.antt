-- Searches in ascending numbers.
use Rattle.std.proofs.Common.{◌<◌, ◌≤◌, ◌↔◌, ℕ, List, length, get_or, IsTrue, Contains, Result, Ok, Err, refl, ◌∙◌, arith}
use Rattle.std.specs.Prelude.{is_ok}
use Rattle.std.specs.Ordering.{nat_cmp}
use Rattle.std.specs.List.{AllPairs}
use Rattle.std.specs.List.Sorted.{IsStrictlyIncreasing, IsBinarySearchResult}
use Rattle.std.proofs.lemmas.List.Kept.{AllPairs-from_increasing}
use Rattle.std.proofs.lemmas.List.Sorted.{searched}
use Rattle.std.proofs.lemmas.Grind.{get_or_default_zero}

not_below : (xs : List ℕ) → AllPairs (λ x y. x < y) xs → (i j : ℕ) → i ≤ j → j < length xs → get_or xs i 0 ≤ get_or xs j 0
not_below xs apart i j le within = grind (arith, apart i j 0)

-- a number is found exactly where it is one of them
pub is_ok_search : (xs : List ℕ) (x : ℕ) (r : Result ℕ ℕ) → IsStrictlyIncreasing xs → IsBinarySearchResult (λ y. nat_cmp y x) xs r → IsTrue (is_ok r) ↔ Contains xs x
is_ok_search xs x (Ok i) up is =
    let found = searched xs x (Ok i) is (not_below xs (AllPairs-from_increasing xs up)) in
    (λ _. (i, found.0, get_or_default_zero xs i x found.0 ∙ found.1), λ _. refl)
is_ok_search xs x (Err i) up is =
    let missed = searched xs x (Err i) is (not_below xs (AllPairs-from_increasing xs up)) in
    (λ yes. cc, λ has. absurd (none missed has))
  where
    none : (i ≤ length xs) × ((k : ℕ) → k < i → get_or xs k 0 < x) × ((k : ℕ) → i ≤ k → k < length xs → x < get_or xs k 0) → Contains xs x → ⊥
    none missed has =
        let same = get_or_default_zero xs has.0 x has.1 in
        let below = missed.1 has.0 in
        let above = missed.2 has.0 in
        grind (arith, below, above, same, has.1, has.2)
