-- A list of seats that is closed one by one.
use Rattle.std.proofs.Common.{◌≡◌, ℕ, ◌+◌, ◌<◌, List, [], ◌∷◌, ◌++◌, All, map, length, get_or, take, drop, set, sym, ap, ◌∙◌, subst, arith, drop-drop, drop-set-lt}
use Rattle.std.proofs.lemmas.List.{take_more, take_more_set}
use Rattle.std.proofs.lemmas.List.Elements.{All-nil, All-cons, All-head, All-tail, All-push}
use lib.Seq.{get_or-drop}
use mathlib.Core.List.{map-append}

pub all_of_map : {X Y : Type 0} (f : X → Y) (P : Y → Type 0) (xs : List X) → All P (map f xs) → All (λ x. P (f x)) xs
all_of_map f P [] h = All-nil (λ x. P (f x))
all_of_map f P (x ∷ xs) h = All-cons (λ y. P (f y)) x xs (All-head P (f x) (map f xs) h) (all_of_map f P xs (All-tail P (f x) (map f xs) h))

module _ {X : Type 0} where
  -- lists that are the same from i on are the same at i
  pub same_at : (xs ys : List X) (i : ℕ) (d : X) → drop i xs ≡ drop i ys → get_or xs i d ≡ get_or ys i d
  same_at xs ys i d e = let z : i + 0 ≡ i = omega arith in
      subst (λ (k : ℕ). get_or xs k d ≡ get_or ys k d) z (sym (get_or-drop i xs 0 d) ∙ (ap (λ (zs : List X). get_or zs 0 d) e ∙ get_or-drop i ys 0 d))

  pub same_after : (xs ys : List X) (i : ℕ) (y : X) → drop i xs ≡ drop i ys → drop (i + 1) (set xs i y) ≡ drop (i + 1) ys
  same_after xs ys i y e = drop-set-lt (i + 1) xs i y (omega arith) ∙ (sym (drop-drop 1 i xs) ∙ (ap (drop 1) e ∙ drop-drop 1 i ys))

  pub mapped_more : {Y : Type 0} (f : X → Y) (xs : List X) (i : ℕ) (x : X) → i < length xs → x ≡ get_or xs i x → map f (take i xs) ++ f x ∷ [] ≡ map f (take (i + 1) xs)
  mapped_more f xs i x low is = ap (λ (z : X). map f (take i xs) ++ f z ∷ []) is ∙ (sym (map-append f (take i xs) (get_or xs i x ∷ [])) ∙ ap (map f) (sym (take_more xs i x low)))

  pub all_more : (P : X → Type 0) (xs : List X) (i : ℕ) (y : X) → i < length xs → All P (take i xs) → P y → All P (take (i + 1) (set xs i y))
  all_more P xs i y low all here = subst (All P) (sym (take_more_set xs i y low)) (All-push P (take i xs) y all here)
