-- What filters keep and find.
use Rattle.std.proofs.Common.{◌≡◌, refl, sym, ap, ◌∙◌, ℕ, zero, suc, ◌<◌, ◌≤◌, Bool, true, false, not, ◌⊎◌, cond, List, [], ◌∷◌, length, get_or, take, drop, Some, find, inl, inr, arith}
use Rattle.std.proofs.Math.Bool.{and_comm}
use Rattle.std.proofs.lemmas.Bool.{cases_Bool}
use Rattle.std.proofs.lemmas.List.Elements.{All-weaker}
use Rattle.std.specs.Prelude.{All, filter}
use Rattle.sv_offer_laws.proofs.Members.{filter-filter, filter_whole}

-- two tests that always agree keep the same
pub filter_alike : {X : Type 0} (p q : X → Bool) → ((x : X) → p x ≡ q x) → (xs : List X) → filter p xs ≡ filter q xs
filter_alike p q same [] = refl
filter_alike p q same (x ∷ xs) =
    ap (λ rest. cond (p x) (x ∷ rest) rest) (filter_alike p q same xs) ∙ ap (λ b. cond b (x ∷ filter q xs) (filter q xs)) (same x)

-- two filters in either order
pub commute : {X : Type 0} (p q : X → Bool) (xs : List X) → filter p (filter q xs) ≡ filter q (filter p xs)
commute p q xs = filter-filter p q xs ∙ filter_alike _ _ (λ x. and_comm (q x) (p x)) xs ∙ sym (filter-filter q p xs)

-- what passes one test is found among what passes another that it implies
pub found_among : {X : Type 0} (p q : X → Bool) → ((x : X) → p x ≡ true → q x ≡ true) → (xs : List X) → find p (filter q xs) ≡ find p xs
found_among p q implies [] = refl
found_among p q implies (x ∷ xs) = elim (cases_Bool (q x)) [
  | inl holds ↦ rw holds (ap (λ rest. cond (p x) (Some x) rest) (found_among p q implies xs))
  | inr fails ↦ rw fails (found_among p q implies xs ∙ sym (ap (λ b. cond b (Some x) (find p xs)) (none (cases_Bool (p x)) fails)))
]
  where
    none : ((p x ≡ true) ⊎ (p x ≡ false)) → q x ≡ false → p x ≡ false
    none (inl passes) other = let both : q x ≡ true = implies x passes in cc
    none (inr stays) other = stays

-- a test that none passes keeps none
pub none_kept : {X : Type 0} (p : X → Bool) (xs : List X) → All (λ x. p x ≡ false) xs → filter p xs ≡ []
none_kept p [] none = refl
none_kept p (x ∷ xs) none =
    let first : p x ≡ false = none zero x (omega arith) in rw first (none_kept p xs (λ k d within. none (suc k) d (omega (arith, within))))

-- what passes in front, and what fails behind
pub split_front : {X : Type 0} (p : X → Bool) (xs : List X) (i : ℕ) → i ≤ length xs → ((k : ℕ) (d : X) → k < i → p (get_or xs k d) ≡ true) →
    ((k : ℕ) (d : X) → i ≤ k → k < length xs → p (get_or xs k d) ≡ false) → (take i xs ≡ filter p xs) × (drop i xs ≡ filter (λ x. not (p x)) xs)
split_front p xs zero within front rest =
    let fails : All (λ x. p x ≡ false) xs = λ k d inside. rest k d (omega arith) inside in
    (sym (none_kept p xs fails), sym (filter_whole (λ x. not (p x)) xs (All-weaker (λ x. p x ≡ false) (λ x. not (p x) ≡ true) (λ x f. ap not f) xs fails)))
split_front p [] (suc i) within front rest = absurd (omega arith)
split_front p (x ∷ xs) (suc i) within front rest =
    let first : p x ≡ true = front zero x (omega arith) in
    let others = split_front p xs i (omega (arith, within)) (λ k d before. front (suc k) d (omega (arith, before))) (λ k d from inside. rest (suc k) d (omega (arith, from)) (omega (arith, inside))) in
    (rw first (ap (λ ys. x ∷ ys) others.0), rw first others.1)
