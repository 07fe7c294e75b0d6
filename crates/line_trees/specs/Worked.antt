-- Worked lines: tokens of one glyph each.
use Rattle.std.specs.Prelude.{◌+◌, ℕ, List, [], ◌∷◌, length, codes}
use Rattle.line_scanner.specs.Token.{PlainKind, PlainToken}
use Rattle.line_trees.specs.declared.class.Class.{Class}
use Rattle.line_trees.specs.Parsing.{Parsed, parsed}

-- tokens of one glyph each, from a place on
abbrev pub glyph_each : ℕ → List PlainKind → List PlainToken
glyph_each at [] = []
glyph_each at (kind ∷ kinds) = record { kind = kind; at = at; after = at + 1 } ∷ glyph_each (at + 1) kinds

-- what is computed of tokens of one glyph each
abbrev pub parsed_glyphs : List Class → List PlainKind → Parsed
parsed_glyphs classes kinds = parsed classes (glyph_each 0 kinds) (length kinds)

-- a function N without arguments, M with one, D with two
abbrev pub three_classes : List Class
three_classes = record { name = codes "N"; arguments = 0 } ∷ record { name = codes "M"; arguments = 1 } ∷ record { name = codes "D"; arguments = 2 } ∷ []
