-- Lists that are read by place, and sums over them.
use Rattle.std.proofs.Common.{◌≡◌, ◌≢◌, ◌⊎◌, ℕ, zero, suc, ◌+◌, ◌<◌, ◌≤◌, List, [], ◌∷◌, ◌++◌, length, set, sum_by, refl, sym, ap, inl, inr, ⊎_elim, arith}
use Rattle.std.proofs.lemmas.List.Sums.{sum_by-cons}
use mathlib.Core.Option.{some, some-injective, some-ne-none}
use lib.ListN.{get_elem?}

-- an element with a part in the sum
abbrev pub Found : {X : Type 0} → (X → ℕ) → List X → Type 0
Found {X} f xs = (i : ℕ) × (v : X) × (get_elem? xs i ≡ some v) × (0 < f v)

module _ {X : Type 0} where
  pub at_end : (xs : List X) (a b : X) (j : ℕ) → get_elem? (xs ++ a ∷ []) j ≡ some b → ((get_elem? xs j ≡ some b) × (j ≢ length xs)) ⊎ ((j ≡ length xs) × (a ≡ b))
  at_end [] a b zero e = inr (refl, some-injective a b e)
  at_end [] a b (suc j) e = absurd (some-ne-none b (sym e))
  at_end (x ∷ xs) a b zero e = inl (e, λ h. omega arith)
  at_end (x ∷ xs) a b (suc j) e = ⊎_elim (λ t. let n = t.1 in inl (t.0, λ h. n (omega arith))) (λ t. inr (ap suc t.0, t.1)) (at_end xs a b j e)

module _ {X : Type 0} (f : X → ℕ) where
  pub sum_set : (xs : List X) (i : ℕ) (v w : X) → get_elem? xs i ≡ some v → sum_by f (set xs i w) + f v ≡ sum_by f xs + f w
  sum_set [] i v w e = absurd (some-ne-none v (sym e))
  sum_set (x ∷ xs) zero v w e = let a = sum_by-cons f w xs in let b = sum_by-cons f x xs in let k : f x ≡ f v = ap f (some-injective x v e) in omega arith
  sum_set (x ∷ xs) (suc i) v w e = let a = sum_by-cons f x (set xs i w) in let b = sum_by-cons f x xs in let c = sum_set xs i v w e in omega arith

  pub sum_at : (xs : List X) (i : ℕ) (v : X) → get_elem? xs i ≡ some v → f v ≤ sum_by f xs
  sum_at [] i v e = absurd (some-ne-none v (sym e))
  sum_at (x ∷ xs) zero v e = let b = sum_by-cons f x xs in let k : f x ≡ f v = ap f (some-injective x v e) in omega arith
  sum_at (x ∷ xs) (suc i) v e = let b = sum_by-cons f x xs in let c = sum_at xs i v e in omega arith

  pub sum_apart : (xs : List X) (i j : ℕ) (v w : X) → i ≢ j → get_elem? xs i ≡ some v → get_elem? xs j ≡ some w → f v + f w ≤ sum_by f xs
  sum_apart [] i j v w ne e h = absurd (some-ne-none v (sym e))
  sum_apart (x ∷ xs) zero zero v w ne e h = absurd (ne refl)
  sum_apart (x ∷ xs) zero (suc j) v w ne e h = let b = sum_by-cons f x xs in let k : f x ≡ f v = ap f (some-injective x v e) in let c = sum_at xs j w h in omega arith
  sum_apart (x ∷ xs) (suc i) zero v w ne e h = let b = sum_by-cons f x xs in let k : f x ≡ f w = ap f (some-injective x w h) in let c = sum_at xs i v e in omega arith
  sum_apart (x ∷ xs) (suc i) (suc j) v w ne e h = let b = sum_by-cons f x xs in let c = sum_apart xs i j v w (λ s. ne (ap suc s)) e h in omega arith

  pick : (x : X) (xs : List X) (n : ℕ) → f x ≡ n → (0 < sum_by f xs → Found f xs) → 0 < sum_by f (x ∷ xs) → Found f (x ∷ xs)
  pick x xs zero e more h = let b = sum_by-cons f x xs in let r = more (omega arith) in (suc r.0, r.1, r.2, r.3)
  pick x xs (suc n) e more h = (zero, x, refl, omega arith)

  pub sum_found : (xs : List X) → 0 < sum_by f xs → Found f xs
  sum_found [] h = absurd (omega arith)
  sum_found (x ∷ xs) h = pick x xs (f x) refl (sum_found xs) h

pub sum_less : {X : Type 0} (f g : X → ℕ) (xs : List X) → ((i : ℕ) (v : X) → get_elem? xs i ≡ some v → f v ≤ g v) → sum_by f xs ≤ sum_by g xs
sum_less f g [] h = omega arith
sum_less f g (x ∷ xs) h = let a = sum_by-cons f x xs in let b = sum_by-cons g x xs in let c : f x ≤ g x = h zero x refl in let d = sum_less f g xs (λ i v e. h (suc i) v e) in omega arith
