-- What holds of all things so far holds with one more.
use Rattle.std.proofs.Common.{◌≡◌, ℕ, ◌+◌, ◌<◌, ◌≤◌, List, [], ◌∷◌, ◌++◌, map, length, take, get_or, sym, ap, ◌∙◌, subst}
use Rattle.std.proofs.lemmas.List.{take_more, take_all, map-append}
use Rattle.std.proofs.lemmas.List.Elements.{All-nil, All-cons, All-append, All-more}
use Rattle.std.specs.List.{All}

pub all_more : {X : Type 0} (P : X → Type 0) (xs : List X) (index : ℕ) (x : X) → index < length xs → x ≡ get_or xs index x → P x → All P (take index xs) → All P (take (index + 1) xs)
all_more P xs index x within read known so_far = All-more P xs index x within so_far (subst P read known)

pub all_mapped_more : {X Y : Type 0} (P : Y → Type 0) (f : X → Y) (xs : List X) (index : ℕ) (x : X) → index < length xs → x ≡ get_or xs index x → P (f x) → All P (map f (take index xs)) → All P (map f (take (index + 1) xs))
all_mapped_more P f xs index x within read known so_far =
    let longer : map f (take (index + 1) xs) ≡ map f (take index xs) ++ f x ∷ [] =
    ap (λ list. map f list) (take_more xs index x within ∙ ap (λ last. take index xs ++ last ∷ []) (sym read)) ∙ map-append f (take index xs) (x ∷ []) in
    subst (All P) (sym longer) (All-append P (map f (take index xs)) (f x ∷ []) so_far (All-cons P (f x) [] known (All-nil P)))

pub all_of_first : {X : Type 0} (P : X → Type 0) (all : List X) (x : X) (xs : List X) (at : ℕ) → all ≡ x ∷ xs → P x → length xs ≤ at → All P (take at xs) → All P all
all_of_first P all x xs at e known whole others =
    subst (All P) (sym e) (All-cons P x xs known (subst (All P) (take_all at xs whole) others))
