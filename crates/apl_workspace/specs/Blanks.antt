-- What stands behind blanks.
use Rattle.std.specs.Prelude.{ℕ, List, drop}
use Rattle.std.specs.List.{prefix_len}
use Rattle.apl_arrays.specs.Glyph.{is_blank}

-- a line without the blanks at its front
abbrev pub without_blanks : List ℕ → List ℕ
without_blanks line = drop (prefix_len is_blank line) line
