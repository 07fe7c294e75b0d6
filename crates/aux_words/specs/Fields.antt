-- Fields of a request, with a blank between.
use Rattle.std.specs.Prelude.{◌+◌, ℕ, List, Option, Some, None, take, drop}
use Rattle.std.specs.List.{position}
use Rattle.apl_arrays.specs.Glyph.{is_blank}

-- what stands before a place, and what stands behind it
abbrev pub cut_at : List ℕ → Option ℕ → Option (List ℕ × List ℕ)
cut_at line None = None
cut_at line (Some place) = Some (take place line, drop (place + 1) line)

-- what stands before the first blank, and what stands behind it, where there is a blank
abbrev pub cut_at_blank : List ℕ → Option (List ℕ × List ℕ)
cut_at_blank line = cut_at line (position is_blank line)
