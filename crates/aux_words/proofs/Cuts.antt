-- What stands around the first blank.
use Rattle.std.proofs.Common.{◌≡◌, ℕ, ◌+◌, ◌∙◌, List, ◌∷◌, ◌++◌, take, drop, get_or, Some, sym, ap, add-one, drop-cons}
use Rattle.std.specs.List.{position}
use Rattle.std.proofs.lemmas.Bool.{eqb-true}
use Rattle.std.proofs.lemmas.List.{take-append-drop}
use Rattle.std.proofs.lemmas.List.Quantifiers.{position-Some}
use Rattle.apl_arrays.specs.Glyph.{blank, is_blank}

-- a line is what stands before its first blank, the blank, and what stands behind it
pub blank_found : (line : List ℕ) (place : ℕ) → position is_blank line ≡ Some place → line ≡ take place line ++ blank ∷ drop (place + 1) line
blank_found line place found =
    let at = position-Some is_blank line place 0 found in
    let here : get_or line place 0 ≡ blank = eqb-true (get_or line place 0) blank at.1 in
    let rest : drop place line ≡ blank ∷ drop (place + 1) line = rw add-one (drop-cons line place 0 at.0) ∙ ap (λ glyph. glyph ∷ drop (place + 1) line) here in
    sym (take-append-drop place line) ∙ ap (λ (end : List ℕ). take place line ++ end) rest
