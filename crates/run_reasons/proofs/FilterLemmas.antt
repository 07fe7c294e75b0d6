-- Tests of a list, in either order.
use Rattle.std.proofs.Common.{◌≡◌, refl, sym, ap, ◌∙◌, Bool, true, false, ◌||◌, cond, List, [], ◌∷◌}
use Rattle.std.specs.Prelude.{filter}
use Rattle.std.specs.List.{list_any}

-- an element that passes one test, among those that pass another
pub any-filter : {X : Type 0} (p q : X → Bool) (xs : List X) → list_any p (filter q xs) ≡ list_any q (filter p xs)
any-filter p q [] = refl
any-filter p q (x ∷ xs) = by (any-filter p q xs) (q x) (p x) refl refl
  where
    by : list_any p (filter q xs) ≡ list_any q (filter p xs) → (b d : Bool) → q x ≡ b → p x ≡ d → list_any p (cond b (x ∷ filter q xs) (filter q xs)) ≡ list_any q (cond d (x ∷ filter p xs) (filter p xs))
    by same true true of_q of_p = ap (λ u. u || list_any p (filter q xs)) of_p ∙ sym (ap (λ u. u || list_any q (filter p xs)) of_q)
    by same true false of_q of_p = ap (λ u. u || list_any p (filter q xs)) of_p ∙ same
    by same false true of_q of_p = same ∙ sym (ap (λ u. u || list_any q (filter p xs)) of_q)
    by same false false of_q of_p = same

-- two tests keep the same in either order
pub filter_swap : {X : Type 0} (p q : X → Bool) (xs : List X) → filter p (filter q xs) ≡ filter q (filter p xs)
filter_swap p q [] = refl
filter_swap p q (x ∷ xs) = by (filter_swap p q xs) (q x) (p x) refl refl
  where
    by : filter p (filter q xs) ≡ filter q (filter p xs) → (b d : Bool) → q x ≡ b → p x ≡ d → filter p (cond b (x ∷ filter q xs) (filter q xs)) ≡ filter q (cond d (x ∷ filter p xs) (filter p xs))
    by same true true of_q of_p =
        ap (λ u. cond u (x ∷ filter p (filter q xs)) (filter p (filter q xs))) of_p ∙ ap (λ l. x ∷ l) same
        ∙ sym (ap (λ u. cond u (x ∷ filter q (filter p xs)) (filter q (filter p xs))) of_q)
    by same true false of_q of_p = ap (λ u. cond u (x ∷ filter p (filter q xs)) (filter p (filter q xs))) of_p ∙ same
    by same false true of_q of_p = same ∙ sym (ap (λ u. cond u (x ∷ filter q (filter p xs)) (filter q (filter p xs))) of_q)
    by same false false of_q of_p = same

-- an element passes three tests, of which any may be the last
pub any-filter_twice : {X : Type 0} (p q r : X → Bool) (xs : List X) → list_any p (filter r (filter q xs)) ≡ list_any r (filter q (filter p xs))
any-filter_twice p q r xs = any-filter p r (filter q xs) ∙ ap (list_any r) (filter_swap p q xs)
