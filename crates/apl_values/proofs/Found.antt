-- Items that were looked up by their place.
use Rattle.std.proofs.Common.{◌≡◌, ℕ, ◌+◌, ◌-◌, ◌≤◌, List, [], ◌∷◌, ◌++◌, length, take, refl, sym, ap, subst, ◌∙◌, arith, Bor}
use Rattle.std.specs.Prelude.{Option, Some, None, IfSome, reverse, slice_get}
use Rattle.std.specs.Option.{option_copied}
use Rattle.std.specs.Slice.{IsItemAt}
use Rattle.std.proofs.lemmas.List.{reverse-append, take_all, take_more}
use Rattle.std.proofs.lemmas.Option.{get_or_from_slice_get, slice_get_past, slice_get_read, slice_get_within}

-- what was lent is the item at that place, if there is one
pub found_at : {A : Type 0} (xs : List A) (i : ℕ) (r : Option (Bor A)) → IsItemAt xs i r → option_copied r ≡ slice_get xs i
found_at xs i None is = sym (slice_get_past xs i is.3)
found_at xs i (Some x) is = sym (slice_get_read xs (length xs) i x.now refl is.3.0 is.1)

-- what holds of an item holds of what is lent of it
pub copied_if : {A : Type 0} (P : A → Type 0) (r : Option (Bor A)) (found : Option A) → option_copied r ≡ found → IfSome found P → IfSome r (λ x. P x.now)
copied_if P None found e is = tt
copied_if P (Some x) found e is = subst (λ found. IfSome found P) (sym e) is

-- the last of some items
pub last_there : {A : Type 0} (xs : List A) (x : A) (i : ℕ) → length xs ≤ i + 1 → slice_get xs i ≡ Some x → xs ≡ take i xs ++ x ∷ []
last_there xs x i most e =
    sym (take_all (i + 1) xs most) ∙ take_more xs i x (slice_get_within xs i x e) ∙ ap (λ y. take i xs ++ y ∷ []) (get_or_from_slice_get xs i x x e)

-- it is the first from behind
pub last_first : {A : Type 0} (xs : List A) (x : A) → slice_get xs (length xs - 1) ≡ Some x → reverse xs ≡ x ∷ reverse (take (length xs - 1) xs)
last_first xs x e = ap reverse (last_there xs x (length xs - 1) (let most : length xs ≤ length xs - 1 + 1 = omega arith in most) e) ∙ reverse-append (take (length xs - 1) xs) (x ∷ [])
