-- Text files: their lines, each ended by a line feed, which the last may lack.
use Rattle.std.specs.Prelude.{◌==◌, ◌≤◌, ℕ, List, [], ◌∷◌, length, if◌then◌else◌}
use Rattle.std.specs.List.{AllZip}
use Rattle.apl_arrays.specs.Glyph.{Spells}
use Rattle.line_text.specs.Lines.{line_feed}

-- the most bytes of a text file: 4,194,304
abbrev pub most_file_bytes : ℕ
most_file_bytes = 4194304

-- the most glyphs of a line of a text file: 16,384
abbrev pub most_file_line_glyphs : ℕ
most_file_line_glyphs = 16384

-- one byte more at the front of the first line
abbrev pub with_byte : ℕ → List (List ℕ) → List (List ℕ)
with_byte byte [] = (byte ∷ []) ∷ []
with_byte byte (line ∷ lines) = (byte ∷ line) ∷ lines

-- the lines of a file as bytes: what stands before each line feed, and what stands behind the last one, if there is anything
abbrev pub lines_in : List ℕ → List (List ℕ)
lines_in [] = []
lines_in (byte ∷ bytes) = if byte == line_feed then [] ∷ lines_in bytes else with_byte byte (lines_in bytes)

-- a line's bytes spell these glyphs, which are few enough
pub record IsFileLine (bytes glyphs : List ℕ) : Type 0 where
  pub spelt : Spells bytes glyphs
  pub short : length glyphs ≤ most_file_line_glyphs

-- the bytes of a file are the text of these lines
pub record IsText (bytes : List ℕ) (lines : List (List ℕ)) : Type 0 where
  pub small : length bytes ≤ most_file_bytes
  pub each : AllZip IsFileLine (lines_in bytes) lines

-- the bytes of a file are no text: too many, or a line that is too long, or something in it that is no glyph
abbrev pub IsNoText : List ℕ → Type 0
IsNoText bytes = (lines : List (List ℕ)) → ¬ IsText bytes lines
