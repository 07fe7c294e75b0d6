use Rattle.std.specs.Prelude.{◌≡◌, ◌<◌, ◌++◌, ℕ, Bool, false, not, List, [], ◌∷◌, Option, Some, None, IsTrue, length, take_while, drop}
use Rattle.std.specs.List.{list_all, prefix_len}
use Rattle.apl_arrays.specs.Glyph.{is_blank}
use Rattle.apl_arrays.specs.Run.{begins}

-- any glyph but a blank
abbrev pub is_no_blank : ℕ → Bool
is_no_blank glyph = not (is_blank glyph)

-- the glyphs up to the next blank, and what follows them
abbrev pub word_at_front : List ℕ → Option (List ℕ × List ℕ)
word_at_front [] = None
word_at_front (first ∷ rest) = Some (take_while is_no_blank (first ∷ rest), drop (prefix_len is_no_blank (first ∷ rest)) (first ∷ rest))

-- the next word, and what follows it; none where only blanks are left
abbrev pub next_word : List ℕ → Option (List ℕ × List ℕ)
next_word line = word_at_front (drop (prefix_len is_blank line) line)

-- a word stands behind blanks, and after it comes a blank or the end
pub record IsNextWord (line word rest : List ℕ) : Type 0 where
  pub blanks : List ℕ
  pub whole : line ≡ blanks ++ (word ++ rest)
  pub are_blank : IsTrue (list_all is_blank blanks)
  pub some : 0 < length word
  pub no_blank : IsTrue (list_all is_no_blank word)
  pub ends : begins is_no_blank rest ≡ false
