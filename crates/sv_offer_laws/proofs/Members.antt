-- What a list has.
use Rattle.std.proofs.Common.{◌≡◌, refl, sym, ap, ◌∙◌, ℕ, zero, suc, ◌+◌, ◌<◌, ◌≤◌, Bool, true, false, ◌&&◌, not, cond, List, [], ◌∷◌, ◌++◌, length, get_or, Some, None, ◌⊎◌, inl, inr, arith}
use Rattle.std.specs.Prelude.{Contains, All, filter, find, count_by}
use Rattle.std.specs.List.{list_any}
use Rattle.std.proofs.lemmas.Bool.{cond_both, cases_Bool, or_parts, or_from}
use Rattle.std.proofs.lemmas.Option.{same_Some}
use Rattle.std.proofs.lemmas.List.Filters.{sum_by-filter_both}
use Rattle.std.proofs.lemmas.List.Folds.{list_any_at}
use Rattle.std.proofs.lemmas.List.Sums.{sum_by_push}
use Rattle.std.proofs.lemmas.List.Elements.{All-contains, All-contains_itself, All-filter, All-head, All-tail, filter_passes}

pub Contains-head : {X : Type 0} (x : X) (xs : List X) → Contains (x ∷ xs) x
Contains-head x xs = (0, omega arith, refl)

pub Contains-behind : {X : Type 0} (y : X) (xs : List X) (x : X) → Contains xs x → Contains (y ∷ xs) x
Contains-behind y xs x h = (suc h.0, omega (arith, h.1), h.2)

pub Contains-cons_cases : {X : Type 0} (y : X) (xs : List X) (x : X) → Contains (y ∷ xs) x → (y ≡ x) ⊎ Contains xs x
Contains-cons_cases y xs x h = at h.0 h.1 h.2
  where
    at : (k : ℕ) → k < length (y ∷ xs) → get_or (y ∷ xs) k x ≡ x → (y ≡ x) ⊎ Contains xs x
    at zero within here = inl here
    at (suc k) within here = inr (k, omega (arith, within), here)

-- a filter keeps what passes
pub Contains-filter : {X : Type 0} (p : X → Bool) (xs : List X) (x : X) → p x ≡ true → Contains xs x → Contains (filter p xs) x
Contains-filter p [] x passes h = absurd (omega (arith, h.1))
Contains-filter p (y ∷ xs) x passes h = elim (Contains-cons_cases y xs x h) [
  | inl here ↦ let kept : p y ≡ true = ap p here ∙ passes in rw kept (0, omega arith, here)
  | inr there ↦
      cond_both (p y) (y ∷ filter p xs) (filter p xs) (λ zs. Contains zs x)
      (λ _. Contains-behind y (filter p xs) x (Contains-filter p xs x passes there))
      (λ _. Contains-filter p xs x passes there)
]

pub Contains-from_filter : {X : Type 0} (p : X → Bool) (xs : List X) (x : X) → Contains (filter p xs) x → Contains xs x
Contains-from_filter p xs x h = All-contains (Contains xs) (filter p xs) x (All-filter p (Contains xs) xs (All-contains_itself xs)) h

pub filter_passed : {X : Type 0} (p : X → Bool) (xs : List X) (x : X) → Contains (filter p xs) x → p x ≡ true
filter_passed p xs x h = All-contains (λ y. p y ≡ true) (filter p xs) x (filter_passes p xs) h

-- what is found is in the list, and passes
pub find_passed : {X : Type 0} (p : X → Bool) (xs : List X) (x : X) → find p xs ≡ Some x → (p x ≡ true) × Contains xs x
find_passed p [] x h = cc
find_passed p (y ∷ xs) x h = elim (cases_Bool (p y)) [
  | inl passes ↦ let same : y ≡ x = same_Some y x (rw passes at h) in (ap p (sym same) ∙ passes, (0, omega arith, same))
  | inr fails ↦ let behind = find_passed p xs x (rw fails at h) in (behind.0, Contains-behind y xs x behind.1)
]

-- no more of what a filter keeps passes a test than of the whole list
pub count_by-filter : {X : Type 0} (p q : X → Bool) (xs : List X) → count_by p (filter q xs) ≤ count_by p xs
count_by-filter p q xs = omega (arith, sum_by-filter_both q (λ x. not (q x)) (λ x. refl) (λ x. cond (p x) 1 0) xs)

pub count_by-push : {X : Type 0} (p : X → Bool) (xs : List X) (y : X) → count_by p (xs ++ y ∷ []) ≡ count_by p xs + cond (p y) 1 0
count_by-push p xs y = sum_by_push (λ x. cond (p x) 1 0) xs y

-- none passes where the test of the whole list fails
pub count_by-none : {X : Type 0} (p : X → Bool) (xs : List X) → list_any p xs ≡ false → count_by p xs ≡ 0
count_by-none p [] h = refl
count_by-none p (y ∷ xs) h = let parts = or_parts (p y) (list_any p xs) h in rw (parts.0) (count_by-none p xs parts.1)

pub filter-filter : {X : Type 0} (p q : X → Bool) (xs : List X) → filter p (filter q xs) ≡ filter (λ x. q x && p x) xs
filter-filter p q [] = refl
filter-filter p q (y ∷ xs) = elim (cases_Bool (q y)) [
  | inl passes ↦ rw passes (ap (λ zs. cond (p y) (y ∷ zs) zs) (filter-filter p q xs))
  | inr fails ↦ rw fails (filter-filter p q xs)
]

-- two tests that agree on what a list has keep the same of it
pub filter_same : {X : Type 0} (p q : X → Bool) (xs : List X) → All (λ x. p x ≡ q x) xs → filter p xs ≡ filter q xs
filter_same p q [] h = refl
filter_same {X} p q (y ∷ xs) h =
    let P : X → Type 0 = λ x. p x ≡ q x in
    rw (All-head P y xs h) (ap (λ zs. cond (q y) (y ∷ zs) zs) (filter_same p q xs (All-tail P y xs h)))

-- a filter that all pass keeps the whole list
pub filter_whole : {X : Type 0} (p : X → Bool) (xs : List X) → All (λ x. p x ≡ true) xs → filter p xs ≡ xs
filter_whole p [] h = refl
filter_whole {X} p (y ∷ xs) h =
    let P : X → Type 0 = λ x. p x ≡ true in
    rw (All-head P y xs h) (ap (λ zs. y ∷ zs) (filter_whole p xs (All-tail P y xs h)))

pub list_any_member : {X : Type 0} (p : X → Bool) (xs : List X) (x : X) → p x ≡ true → Contains xs x → list_any p xs ≡ true
list_any_member p xs x passes h = list_any_at p xs h.0 x h.1 (ap p h.2 ∙ passes)

pub list_any-filter : {X : Type 0} (p q : X → Bool) (xs : List X) → list_any p xs ≡ false → list_any p (filter q xs) ≡ false
list_any-filter p q [] h = refl
list_any-filter p q (y ∷ xs) h =
    let parts = or_parts (p y) (list_any p xs) h in
    cond_both (q y) (y ∷ filter q xs) (filter q xs) (λ zs. list_any p zs ≡ false)
    (λ _. or_from (p y) (list_any p (filter q xs)) parts.0 (list_any-filter p q xs parts.1)) (λ _. list_any-filter p q xs parts.1)

pub All-both : {X : Type 0} (P Q : X → Type 0) (xs : List X) → All P xs → All Q xs → All (λ x. P x × Q x) xs
All-both P Q xs h k = λ i d within. (h i d within, k i d within)

-- where none passes, the others are all
pub filter_past_none : {X : Type 0} (p : X → Bool) (xs : List X) → find p xs ≡ None → filter (λ x. not (p x)) xs ≡ xs
filter_past_none p [] none = refl
filter_past_none p (x ∷ xs) none = elim (cases_Bool (p x)) [
  | inl here ↦ let no : Some x ≡ None = rw here at none in cc
  | inr not_here ↦ rw not_here (ap (λ rest. x ∷ rest) (filter_past_none p xs (rw not_here at none)))
]
