-- Edits of a list of lines, seen as their glyphs.
use Rattle.std.proofs.Common.{◌≡◌, ℕ, ◌+◌, ◌<◌, List, [], ◌∷◌, ◌++◌, Some, suc, length, map, take, drop, get_or, insert, remove, slice_get, ap, sym, ◌∙◌}
use Rattle.std.proofs.lemmas.List.{map-append, map_more, take-map, drop-map}
use Rattle.std.proofs.lemmas.Option.{slice_get-map}
use Rattle.std.specs.Option.{option_map}

-- what is put in is seen as it is seen alone
pub map-insert : {X Y : Type 0} (f : X → Y) (xs : List X) (i : ℕ) (x : X) → map f (insert xs i x) ≡ insert (map f xs) i (f x)
map-insert f xs i x =
    map-append f (take i xs) (x ∷ drop i xs)
    ∙ (ap (λ front. front ++ f x ∷ map f (drop i xs)) (sym (take-map f i xs)) ∙ ap (λ back. take i (map f xs) ++ f x ∷ back) (sym (drop-map f i xs)))

-- what is left is seen as before
pub map-remove : {X Y : Type 0} (f : X → Y) (xs : List X) (i : ℕ) → map f (remove xs i) ≡ remove (map f xs) i
map-remove f xs i =
    map-append f (take i xs) (drop (suc i) xs)
    ∙ (ap (λ front. front ++ map f (drop (suc i) xs)) (sym (take-map f i xs)) ∙ ap (λ back. take i (map f xs) ++ back) (sym (drop-map f (suc i) xs)))

-- the item at a place is seen as it is seen alone
pub seen_at : {X Y : Type 0} (f : X → Y) (xs : List X) (ys : List Y) (i : ℕ) (x : X) → map f xs ≡ ys → slice_get xs i ≡ Some x → slice_get ys i ≡ Some (f x)
seen_at f xs ys i x seen at = ap (λ list. slice_get list i) (sym seen) ∙ (slice_get-map f xs i ∙ ap (option_map f) at)

-- one item more of a list that is copied
pub copied_more : {X Y : Type 0} (f : X → Y) (xs copy : List X) (i : ℕ) (x : X) (y : X) → i < length xs → map f copy ≡ map f (take i xs) → x ≡ get_or xs i x → f y ≡ f x → map f (copy ++ y ∷ []) ≡ map f (take (i + 1) xs)
copied_more f xs copy i x y within so_far read same =
    map-append f copy (y ∷ [])
    ∙ (ap (λ front. front ++ f y ∷ []) so_far ∙ (ap (λ last. map f (take i xs) ++ last ∷ []) (same ∙ ap f read) ∙ sym (map_more f xs i x within)))
