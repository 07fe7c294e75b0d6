-- The words of a line.
use Rattle.std.specs.Prelude.{ℕ, Bool, true, false, List, [], ◌∷◌}
use Rattle.apl_arrays.specs.Glyph.{is_blank}
use Rattle.apl_arrays.specs.Run.{begins}
use Rattle.apl_arrays.specs.Word.{is_no_blank}

-- a glyph in front of words: a blank parts them; any other begins the first of them where that follows at once, and else is a word by itself
abbrev pub with_glyph : ℕ → Bool → Bool → List (List ℕ) → List (List ℕ)
with_glyph glyph true follows words = words
with_glyph glyph false true [] = (glyph ∷ []) ∷ []
with_glyph glyph false true (word ∷ words) = (glyph ∷ word) ∷ words
with_glyph glyph false false words = (glyph ∷ []) ∷ words

-- the words of a line, which blanks part
abbrev pub words_in : List ℕ → List (List ℕ)
words_in [] = []
words_in (glyph ∷ line) = with_glyph glyph (is_blank glyph) (begins is_no_blank line) (words_in line)
