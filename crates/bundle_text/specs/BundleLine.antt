-- What a line of a bundle is.
use Rattle.std.specs.Prelude.{◌≡◌, ◌≢◌, ℕ, ◌≤◌, ◌<◌, IsTrue, List, [], ◌∷◌, ◌++◌, All, length, codes}
use Rattle.std.specs.List.{list_all}
use Rattle.apl_arrays.specs.File.{IsFileName}
use Rattle.apl_arrays.specs.Glyph.{IsGlyph, bar, line_utf8}
use Rattle.line_text.specs.Lines.{heading, content, end_line, line_text}
use Rattle.line_text.specs.Spaced.{spaced}
use Rattle.bundle_text.specs.Rules.{IsUserNumber}
use Rattle.bundle_text.specs.Limits.{greatest_reading}
use Rattle.text_reader.specs.Numeral.{is_numeral, number_of_digits}

-- a line as plain data: glyphs behind a bar; the heading of a user; turns, by the digits of their parties; the heading of a
-- file; readings, by their digits; the end
pub data PlainLine : Type 0 where
  input : List ℕ → PlainLine
  user : ℕ → PlainLine
  order : List (List ℕ) → PlainLine
  file : List ℕ → PlainLine
  clock : List (List ℕ) → PlainLine
  end : PlainLine

-- the digits of a reading
pub record IsReadingText (digits : List ℕ) : Type 0 where
  pub numeral : IsTrue (is_numeral digits)
  pub small : number_of_digits digits ≤ greatest_reading

-- a content line of glyphs, or a heading whose numbers and names are in their ranges; an order names any numbers
abbrev pub IsBundleLine : PlainLine → Type 0
IsBundleLine (input line) = All IsGlyph line
IsBundleLine (user number) = IsUserNumber number
IsBundleLine (order numbers) = (0 < length numbers) × IsTrue (list_all is_numeral numbers)
IsBundleLine (file name) = IsFileName name
IsBundleLine (clock numbers) = (0 < length numbers) × All IsReadingText numbers
IsBundleLine end = Unit {0}

-- the glyphs of a line: a word, and one blank before each number or name
abbrev pub line_glyphs : PlainLine → List ℕ
line_glyphs (input line) = content line
line_glyphs (user number) = heading number
line_glyphs (order numbers) = spaced (codes "order" ∷ numbers)
line_glyphs (file name) = spaced (codes "file" ∷ name ∷ [])
line_glyphs (clock numbers) = spaced (codes "clock" ∷ numbers)
line_glyphs end = end_line

-- the bytes are the text of this line, without its line feed
abbrev pub IsTextOf : PlainLine → List ℕ → Type 0
IsTextOf line bytes = IsBundleLine line × (bytes ≡ line_utf8 (line_glyphs line))

-- the bytes are the text of no line
abbrev pub IsNoLine : List ℕ → Type 0
IsNoLine bytes = (line : PlainLine) → ¬ IsTextOf line bytes

-- no bar stands in front
abbrev pub IsNoContent : List ℕ → Type 0
IsNoContent bytes = (rest : List ℕ) → bytes ≢ bar ∷ rest
