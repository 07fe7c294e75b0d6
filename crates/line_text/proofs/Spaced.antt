-- Texts with one blank between each two.
use Rattle.std.proofs.Common.{◌≡◌, ℕ, List, [], ◌∷◌, ◌++◌, map, length, take, ◌≤◌, sym, ap, ◌∙◌, append-nil, append_assoc}
use Rattle.std.proofs.lemmas.List.{take_all}
use Rattle.std.specs.List.{flat_map}
use Rattle.line_text.specs.Spaced.{spaced}

-- the first text, and then each other one after a blank
pub spaced_is : {A : Type 0} (f : A → List ℕ) (x : A) (xs : List A) → spaced (map f (x ∷ xs)) ≡ f x ++ flat_map (λ y. 32 ∷ f y) xs
spaced_is f x [] = sym (append-nil (f x))
spaced_is f x (y ∷ ys) = ap (λ rest. f x ++ 32 ∷ rest) (spaced_is f y ys)

-- a line to which these texts were added one after another
pub spaced_after : {A : Type 0} (f : A → List ℕ) (x : A) (xs all : List A) (at : ℕ) (old one line : List ℕ) → all ≡ x ∷ xs → one ≡ old ++ f x → length xs ≤ at → line ≡ one ++ flat_map (λ y. 32 ∷ f y) (take at xs) → line ≡ old ++ spaced (map f all)
spaced_after f x xs all at old one line e first whole more =
    more
    ∙ (ap (λ items. one ++ flat_map (λ y. 32 ∷ f y) items) (take_all at xs whole)
    ∙ (ap (λ front. front ++ flat_map (λ y. 32 ∷ f y) xs) first
    ∙ (append_assoc old (f x) (flat_map (λ y. 32 ∷ f y) xs) ∙ ap (λ text. old ++ text) (sym (ap (λ items. spaced (map f items)) e ∙ spaced_is f x xs)))))
