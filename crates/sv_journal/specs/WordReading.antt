-- Reading one of several words.
use Rattle.std.specs.Prelude.{◌-◌, ◌==◌, ◌∷◌, [], ℕ, List, Err, Ok, length, max, if◌then◌else◌}
use Rattle.text_reader.specs.Reading.{Reader, Reading, ◌>>=◌, read_literal, shared_length}

-- one of these whose word stands at the front; else the reading stops behind the most glyphs that one of the words has
-- in common with the line, which are at least as many as are told
abbrev pub read_word : {W : Type 0} → (W → List ℕ) → ℕ → List W → Reader W
read_word text shared [] line = Err (length line - shared)
read_word text shared (word ∷ words) line =
    if shared_length (text word) line == length (text word) then (read_literal (text word) line >>= λ rest. Ok (word, rest))
    else read_word text (max shared (shared_length (text word) line)) words line
