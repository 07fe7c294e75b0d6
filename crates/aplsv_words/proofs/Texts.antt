-- Texts that are compared, and lists that are searched.
use Rattle.std.proofs.Common.{◌≡◌, ◌⊎◌, ◌==◌, ◌++◌, ℕ, Bool, true, false, cond, List, [], ◌∷◌, get_or, Some, refl, sym, ap, inl, inr, subst}
use Rattle.std.specs.List.{find, list_all, list_any}
use Rattle.std.specs.Str.{bytes_eq}
use Rattle.std.proofs.lemmas.Bool.{and_parts, both_ways, eq-eqb, eqb-true, false_from_ne_true, or_from}
use Rattle.std.proofs.lemmas.List.Folds.{list_any_at}
use Rattle.std.proofs.lemmas.Option.{none-some, same_Some}
use Rattle.std.proofs.lemmas.Slice.Eq.{bytes_eq-Decides}
use Rattle.clap.proofs.CutLemmas.{Lacks}

pub same : (a : List ℕ) → bytes_eq a a ≡ true
same a = (bytes_eq-Decides a a).1 refl

pub differs : (a b : List ℕ) → bytes_eq a b ≡ false → bytes_eq b a ≡ false
differs a b apart = false_from_ne_true (bytes_eq b a) (λ alike. both_ways (bytes_eq a b) apart ((bytes_eq-Decides a b).1 (sym ((bytes_eq-Decides b a).0 alike))))

-- a list in which no test for a number passes lacks the number
pub lacks : (c : ℕ) (xs : List ℕ) → list_any (λ x. x == c) xs ≡ false → Lacks c xs
lacks c xs none i within here = both_ways (list_any (λ x. x == c) xs) none (list_any_at (λ x. x == c) xs i 0 within (eq-eqb (get_or xs i 0) c here))

-- the text has `=`, and no other before it
abbrev pub IsCut : List ℕ → Type 0
IsCut text = (name : List ℕ) × (value : List ℕ) × (text ≡ name ++ 61 ∷ value) × (list_any (λ x. x == 61) name ≡ false)

pub cut : (text : List ℕ) → (list_any (λ x. x == 61) text ≡ false) ⊎ IsCut text
cut [] = inl refl
cut (x ∷ xs) = by (x == 61) refl (cut xs) where
  by : (b : Bool) → (x == 61) ≡ b → (list_any (λ y. y == 61) xs ≡ false) ⊎ IsCut xs → (list_any (λ y. y == 61) (x ∷ xs) ≡ false) ⊎ IsCut (x ∷ xs)
  by true here rest = inr ([], xs, ap (λ (n : ℕ). n ∷ xs) (eqb-true x 61 here), refl)
  by false here (inl none) = inl (or_from (x == 61) (list_any (λ y. y == 61) xs) here none)
  by false here (inr split) = inr (x ∷ split.0, split.1, ap (λ (t : List ℕ). x ∷ t) split.2, or_from (x == 61) (list_any (λ y. y == 61) split.0) here split.3)

-- what is found passes
pub found_passes : {X : Type 0} (p : X → Bool) (xs : List X) (x : X) → find p xs ≡ Some x → p x ≡ true
found_passes p [] x found = absurd (none-some x found)
found_passes p (y ∷ ys) x found = by (p y) refl (λ e. found_passes p ys x e) found where
  by : (b : Bool) → p y ≡ b → (find p ys ≡ Some x → p x ≡ true) → cond b (Some y) (find p ys) ≡ Some x → p x ≡ true
  by true passes later e = subst (λ z. p z ≡ true) (same_Some y x e) passes
  by false passes later e = later e

-- and what holds of all holds of it
pub found_holds : {X : Type 0} (p q : X → Bool) (xs : List X) (x : X) → find p xs ≡ Some x → list_all q xs ≡ true → q x ≡ true
found_holds p q [] x found all = absurd (none-some x found)
found_holds p q (y ∷ ys) x found all = by (p y) (λ e. found_holds p q ys x e (and_parts (q y) (list_all q ys) all).1) found where
  by : (b : Bool) → (find p ys ≡ Some x → q x ≡ true) → cond b (Some y) (find p ys) ≡ Some x → q x ≡ true
  by true later e = subst (λ z. q z ≡ true) (same_Some y x e) (and_parts (q y) (list_all q ys) all).0
  by false later e = later e
