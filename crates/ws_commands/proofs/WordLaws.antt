-- Words, one after another.
use Rattle.std.proofs.Common.{◌≡◌, ℕ, ◌+◌, ◌<◌, Bool, true, false, List, [], ◌∷◌, ◌++◌, length, refl, sym, ap, ◌∙◌, arith, append-nil, length-append}
use Rattle.std.specs.List.{list_all}
use Rattle.std.proofs.lemmas.Bool.{and_parts}
use Rattle.apl_arrays.specs.Glyph.{is_blank}
use Rattle.apl_arrays.specs.Run.{begins}
use Rattle.apl_arrays.specs.Word.{IsNextWord, is_no_blank}
use Rattle.apl_workspace.proofs.NameLaw.{from_not}
use Rattle.ws_commands.specs.Words.{with_glyph, words_in}

-- blanks in front are passed over
behind_blanks : (blanks line : List ℕ) → list_all is_blank blanks ≡ true → words_in (blanks ++ line) ≡ words_in line
behind_blanks [] line e = refl
behind_blanks (glyph ∷ blanks) line e =
    let parts = and_parts (is_blank glyph) (list_all is_blank blanks) e in
    ap (λ (b : Bool). with_glyph glyph b (begins is_no_blank (blanks ++ line)) (words_in (blanks ++ line))) parts.0 ∙ behind_blanks blanks line parts.1

-- glyphs without a blank are a word, where a blank or the end follows
word_stands : (glyph : ℕ) (word rest : List ℕ) → list_all is_no_blank (glyph ∷ word) ≡ true → begins is_no_blank rest ≡ false → words_in ((glyph ∷ word) ++ rest) ≡ (glyph ∷ word) ∷ words_in rest
word_stands glyph [] rest all ends =
    let own = from_not (is_blank glyph) (and_parts (is_no_blank glyph) true all).0 in
    ap (λ (b : Bool). with_glyph glyph b (begins is_no_blank rest) (words_in rest)) own ∙ ap (λ (b : Bool). with_glyph glyph false b (words_in rest)) ends
word_stands glyph (next ∷ word) rest all ends =
    let parts = and_parts (is_no_blank glyph) (list_all is_no_blank (next ∷ word)) all in
    let own = from_not (is_blank glyph) parts.0 in
    let goes_on = (and_parts (is_no_blank next) (list_all is_no_blank word) parts.1).0 in
    let behind : List ℕ = (next ∷ word) ++ rest in
    ap (λ (b : Bool). with_glyph glyph b (is_no_blank next) (words_in behind)) own
    ∙ ap (λ (b : Bool). with_glyph glyph false b (words_in behind)) goes_on
    ∙ ap (with_glyph glyph false true) (word_stands next word rest parts.1 ends)

-- a word, and then those of what follows it
pub next_words : (line word rest : List ℕ) → IsNextWord line word rest → words_in line ≡ word ∷ words_in rest
next_words line [] rest h = absurd (omega (arith, h.some))
next_words line (glyph ∷ word) rest h = ap words_in h.whole ∙ behind_blanks h.blanks ((glyph ∷ word) ++ rest) h.are_blank ∙ word_stands glyph word rest h.no_blank h.ends

-- what follows a word is shorter
pub shorter : (line word rest : List ℕ) → IsNextWord line word rest → length rest < length line
shorter line word rest h =
    let whole : length line ≡ length h.blanks + (length word + length rest) = ap length h.whole ∙ length-append h.blanks (word ++ rest) ∙ ap (λ (n : ℕ). length h.blanks + n) (length-append word rest) in
    omega (arith, whole, h.some)

-- a blank line has no word
pub no_words : (line : List ℕ) → list_all is_blank line ≡ true → words_in line ≡ []
no_words line e = ap words_in (sym (append-nil line)) ∙ behind_blanks line [] e
