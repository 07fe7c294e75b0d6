-- What lines weigh, and how long each is.
use Rattle.std.proofs.Common.{◌≡◌, ℕ, zero, suc, ◌+◌, ◌≤◌, ◌<◌, All, List, [], ◌∷◌, ◌++◌, length, map, get_or, refl, arith}
use Rattle.std.proofs.lemmas.List.Elements.{All-head, All-tail}
use Rattle.std.proofs.lemmas.List.Sums.{sum_by-cons}
use Rattle.apl_arrays.specs.List.{Listed, glyphs_in}
use Rattle.apl_workspace.specs.Function.{lines_weight}
use Rattle.ws_codec.specs.Functions.{glyph_count}

-- lines weigh their glyphs, and one each
pub lines_weigh : (lines : List (List ℕ)) → lines_weight lines ≡ glyph_count lines + length lines
lines_weigh [] = refl
lines_weigh (line ∷ lines) =
    omega (arith, lines_weigh lines, sum_by-cons (λ (l : List ℕ). length l + 1) line lines, sum_by-cons (λ (l : List ℕ). length l) line lines)

-- a line more
pub glyphs_push : (lines : List (List ℕ)) (line : List ℕ) → glyph_count (lines ++ line ∷ []) ≡ glyph_count lines + length line
glyphs_push [] line = omega (arith, sum_by-cons (λ (l : List ℕ). length l) line [])
glyphs_push (first ∷ lines) line =
    omega (arith, glyphs_push lines line, sum_by-cons (λ (l : List ℕ). length l) first lines, sum_by-cons (λ (l : List ℕ). length l) first (lines ++ line ∷ []))

-- one of several lines is as short as all are
pub short_at : (lines : List (Listed ℕ)) (i : ℕ) (d : Listed ℕ) → i < length lines → All (λ line. length line ≤ 1000) (map glyphs_in lines) → length (glyphs_in (get_or lines i d)) ≤ 1000
short_at [] i d lt all = absurd (omega arith)
short_at (line ∷ lines) zero d lt all = All-head (λ (l : List ℕ). length l ≤ 1000) (glyphs_in line) (map glyphs_in lines) all
short_at (line ∷ lines) (suc i) d lt all = short_at lines i d (omega arith) (All-tail (λ (l : List ℕ). length l ≤ 1000) (glyphs_in line) (map glyphs_in lines) all)
