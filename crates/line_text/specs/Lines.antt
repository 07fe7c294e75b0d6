-- Lines as they are read and written.
use Rattle.std.specs.Prelude.{ℕ, List, [], ◌∷◌, ◌++◌, ◌≢◌, All, map, codes, decimal}
use Rattle.std.specs.List.{flat_map}
use Rattle.apl_arrays.specs.Glyph.{bar, line_utf8}
use Rattle.line_text.specs.Spaced.{spaced}

-- the byte that ends each line
abbrev pub line_feed : ℕ
line_feed = 10

-- no byte ends a line
abbrev pub HasNoFeed : List ℕ → Type 0
HasNoFeed bytes = All (λ byte. byte ≢ line_feed) bytes

-- the heading of a user's lines
abbrev pub heading : ℕ → List ℕ
heading number = spaced (codes "user" ∷ decimal number ∷ [])

-- a line of a user stands after |
abbrev pub content : List ℕ → List ℕ
content line = bar ∷ line

-- a user's heading and lines
abbrev pub user_lines : ℕ → List (List ℕ) → List (List ℕ)
user_lines number lines = heading number ∷ map content lines

-- the last line
abbrev pub end_line : List ℕ
end_line = codes "end"

-- a line in UTF-8, and its line feed
abbrev pub line_text : List ℕ → List ℕ
line_text line = line_utf8 line ++ line_feed ∷ []

-- lines, one after another
abbrev pub lines_text : List (List ℕ) → List ℕ
lines_text lines = flat_map line_text lines
