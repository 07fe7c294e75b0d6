-- Pieces that are joined, and the cells of a row.
use Rattle.std.proofs.Common.{◌≡◌, ◌==◌, ℕ, suc, ◌+◌, ◌*◌, ◌<◌, ◌≤◌, ℤ, pos, List, [], ◌∷◌, ◌++◌, length, get_or, take, map, cond, refl, sym, ap, ◌∙◌, arith, append-nil, append_assoc}
use Rattle.std.proofs.lemmas.Bool.Decides.{nat_tests}
use Rattle.std.proofs.lemmas.List.{map_more, length-map, length-take-le, take_all}
use Rattle.std.proofs.lemmas.List.Concat.{flat_map-append}
use Rattle.std.proofs.lemmas.Nat.{row_fits}
use Rattle.std.proofs.lemmas.Slice.Zip.{length-zip, get_or-zip}
use Rattle.std.specs.List.{flat_map, zip}
use Rattle.apl_display.specs.Joined.{separated_by}
use Rattle.apl_arrays.specs.Glyph.{blank}
use Rattle.line_text.specs.Spaced.{spaced}
use Rattle.apl_display.specs.Matrices.{cell, aligned}

-- what stands before a piece: nothing before the first
abbrev pub gap : {A : Type 0} → List A → ℕ → List A
gap between place = cond (place == 0) [] between

pub gap_later : {A : Type 0} (between : List A) (n : ℕ) → gap between (suc n) ≡ between
gap_later between n = grind (arith, nat_tests)

-- one piece more
pub joined_push : {A : Type 0} (between : List A) (pieces : List (List A)) (piece : List A) → separated_by between (pieces ++ piece ∷ []) ≡ separated_by between pieces ++ (gap between (length pieces) ++ piece)
joined_push between [] piece = append-nil piece
joined_push between (first ∷ others) piece =
    ap (λ end. first ++ end) (flat_map-append (λ p. between ++ p) others (piece ∷ []) ∙ ap (λ end. flat_map (λ p. between ++ p) others ++ end) (append-nil (between ++ piece)))
    ∙ (sym (append_assoc first (flat_map (λ p. between ++ p) others) (between ++ piece))
    ∙ ap (λ stop. first ++ flat_map (λ p. between ++ p) others ++ (stop ++ piece)) (sym (gap_later between (length others))))

-- one piece more of a list of pieces
pub joined_more : {A X : Type 0} (between : List A) (f : X → List A) (xs : List X) (i : ℕ) (d : X) → i < length xs → separated_by between (map f (take (i + 1) xs)) ≡ separated_by between (map f (take i xs)) ++ (gap between i ++ f (get_or xs i d))
joined_more between f xs i d within =
    let count : length (map f (take i xs)) ≡ i = length-map (take i xs) f ∙ length-take-le i xs (omega arith) in
    ap (separated_by between) (map_more f xs i d within)
    ∙ (joined_push between (map f (take i xs)) (f (get_or xs i d)) ∙ ap (λ n. separated_by between (map f (take i xs)) ++ (gap between n ++ f (get_or xs i d))) count)

-- texts with one blank between each two are joined by the blank
pub spaced_joined : (texts : List (List ℕ)) → spaced texts ≡ separated_by (blank ∷ []) texts
spaced_joined [] = refl
spaced_joined (text ∷ []) = sym (append-nil text)
spaced_joined (text ∷ next ∷ texts) = ap (λ rest. text ++ blank ∷ rest) (spaced_joined (next ∷ texts))

-- one text more of a line
pub one_text_more : {X : Type 0} (f : X → List ℕ) (xs : List X) (i : ℕ) (d : X) (line before gapped after : List ℕ) → i < length xs → before ≡ line ++ spaced (map f (take i xs)) → gapped ≡ before ++ gap (blank ∷ []) i → after ≡ gapped ++ f (get_or xs i d) → after ≡ line ++ spaced (map f (take (i + 1) xs))
one_text_more f xs i d line before gapped after within so_far stands text =
    let texts : List ℕ = separated_by (blank ∷ []) (map f (take i xs)) in
    let last : List ℕ = f (get_or xs i d) in
    let joined_so_far : before ≡ line ++ texts = so_far ∙ ap (λ end. line ++ end) (spaced_joined (map f (take i xs))) in
    text
    ∙ (ap (λ front. front ++ last) (stands ∙ ap (λ front. front ++ gap (blank ∷ []) i) joined_so_far)
    ∙ (append_assoc (line ++ texts) (gap (blank ∷ []) i) last
    ∙ (append_assoc line texts (gap (blank ∷ []) i ++ last)
    ∙ ap (λ end. line ++ end) (sym (spaced_joined (map f (take (i + 1) xs)) ∙ joined_more (blank ∷ []) f xs i d within)))))

-- one cell more of a row
pub one_cell_more : (widths : List ℕ) (row : List ℤ) (column : ℕ) (line before gapped after : List ℕ) → length widths ≡ length row → column < length row → before ≡ line ++ spaced (map cell (take column (zip widths row))) → gapped ≡ before ++ gap (blank ∷ []) column → after ≡ gapped ++ cell (get_or widths column 0, get_or row column (pos 0)) → after ≡ line ++ spaced (map cell (take (column + 1) (zip widths row)))
one_cell_more widths row column line before gapped after same within so_far stands text =
    let placed = get_or-zip widths row column (0, pos 0) (omega arith) within in
    one_text_more cell (zip widths row) column (0, pos 0) line before gapped after (omega (arith, length-zip widths row)) so_far stands
    (text ∙ ap (λ p. gapped ++ cell p) (sym placed))

-- a whole row
pub all_cells : (widths : List ℕ) (row : List ℤ) (column : ℕ) → length widths ≡ length row → length row ≤ column → spaced (map cell (take column (zip widths row))) ≡ aligned widths row
all_cells widths row column same past =
    ap (λ placed. spaced (map cell placed)) (take_all column (zip widths row) (omega (arith, length-zip widths row)))

-- a row lies within the items
pub row_within : (row rows columns items : ℕ) → row < rows → rows * columns ≤ items → row * columns + columns ≤ items
row_within row rows columns items below whole = omega (arith, row_fits row columns rows columns below (omega arith))
