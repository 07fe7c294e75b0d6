-- Texts that were read once.
use Rattle.std.specs.Prelude.{◌≡◌, ℕ, List, Ok, All, length}
use Rattle.line_scanner.specs.Scanning.{reading_of}
use Rattle.line_scanner.specs.declared.token.Tokens.{Tokens}
use Rattle.line_trees.specs.declared.class.Class.{Class}
use Rattle.line_trees.specs.Parsing.{parsed}
use Rattle.apl_values.specs.declared.reading.LineReading.{LineReading}
use Rattle.apl_values.specs.Parts.{IsPart, reading_tree}

-- a text has these tokens, and by these classes this reading
pub record IsKnown (text : List ℕ) (tokens : Tokens) (classes : List Class) (line : LineReading) : Type 0 where
  pub scanned : reading_of text ≡ Ok tokens.tokens.items
  pub long : tokens.length ≡ length text
  pub tree : parsed classes tokens.tokens.items tokens.length ≡ Ok (reading_tree line)
  pub parts : All IsPart line.parts.items
