-- Seats and shelves in rows: one is added behind, or taken from the front.
use Rattle.std.proofs.Common.{◌≡◌, ℕ, ◌<◌, List, [], ◌∷◌, ◌++◌, length, map, take, drop, get_or, refl, sym, ap, ◌∙◌, arith, append_assoc}
use Rattle.std.proofs.Math.Seq.{drop-append_seam, take-append_seam}
use Rattle.std.proofs.lemmas.List.{map_push}

-- ---- the front

-- a row that has a first item is that and the others
pub front_and_rest : {X : Type 0} (xs rest : List X) (x : X) → 0 < length xs → x ≡ get_or xs 0 x → rest ≡ take 0 xs ++ drop 1 xs → xs ≡ x ∷ rest
front_and_rest [] rest x some is others = absurd (omega arith)
front_and_rest {X = X} (y ∷ ys) rest x some is others = ap (λ (z : X). z ∷ ys) (sym is) ∙ ap (λ (zs : List X). x ∷ zs) (sym others)

-- ---- a row of seats that is filled from a row of shelves

-- a seat more takes the first shelf
pub shelf_taken : {S K : Type 0} (shelf_of : S → K) (seats : List S) (shelves rest all : List K) (seat : S) (shelf : K) → map shelf_of seats ++ shelves ≡ all → shelves ≡ shelf ∷ rest → shelf_of seat ≡ shelf
    → map shelf_of (seats ++ seat ∷ []) ++ rest ≡ all
shelf_taken shelf_of seats shelves rest all seat shelf so first has =
    ap (λ taken. taken ++ rest) (map_push shelf_of seats seat)
    ∙ append_assoc (map shelf_of seats) (shelf_of seat ∷ []) rest
    ∙ ap (λ s. map shelf_of seats ++ s ∷ rest) has
    ∙ ap (λ others. map shelf_of seats ++ others) (sym first)
    ∙ so

-- what is said of the items of two rows is said of rows with an item more
pub mapped_more : {S T U : Type 0} (f : S → U) (h : T → U) (ss : List S) (ts : List T) (s : S) (t : T) → map f ss ≡ map h ts → f s ≡ h t → map f (ss ++ s ∷ []) ≡ map h (ts ++ t ∷ [])
mapped_more f h ss ts s t so same = map_push f ss s ∙ ap (λ us. us ++ f s ∷ []) so ∙ ap (λ u. map h ts ++ u ∷ []) same ∙ sym (map_push h ts t)

-- ---- a row of seats that is taken apart

-- the first shelf comes behind those that are there
pub shelf_given : {S K : Type 0} (shelf_of : S → K) (seats rest : List S) (shelves all : List K) (seat : S) (shelf : K) → shelves ++ map shelf_of seats ≡ all → seats ≡ seat ∷ rest → shelf_of seat ≡ shelf
    → (shelves ++ shelf ∷ []) ++ map shelf_of rest ≡ all
shelf_given shelf_of seats rest shelves all seat shelf so first has =
    append_assoc shelves (shelf ∷ []) (map shelf_of rest)
    ∙ ap (λ s. shelves ++ s ∷ map shelf_of rest) (sym has)
    ∙ ap (λ others. shelves ++ map shelf_of others) (sym first)
    ∙ so

-- those that were there and then those that came are turned round
pub turned_round : {K : Type 0} (left given row : List K) (count : ℕ) → row ≡ left ++ given → count ≡ length left → drop count row ++ take count row ≡ given ++ left
turned_round {K = K} left given row count is many =
    ap (λ (r : List K). drop count r ++ take count r) is
    ∙ ap (λ (n : ℕ). drop n (left ++ given) ++ take n (left ++ given)) many
    ∙ ap (λ front. front ++ take (length left) (left ++ given)) (drop-append_seam left given)
    ∙ ap (λ back. given ++ back) (take-append_seam left given)

-- a row without length has no items
pub none_there : {X : Type 0} (xs : List X) → length xs ≡ 0 → xs ≡ []
none_there [] h = refl
none_there (x ∷ xs) h = absurd (omega arith)
