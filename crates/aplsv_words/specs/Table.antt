-- The words that there are, each a row of a table.
use Rattle.std.specs.Prelude.{Bool, true, false, ℕ, List, [], ◌∷◌, codes}

-- a word of the table: its name, which stands behind two hyphens, and whether it takes a value
pub record Word : Type 0 where
  pub name : List ℕ
  pub takes_value : Bool

-- a word without a value
abbrev pub flag : List ℕ → Word
flag name = record { name = name; takes_value = false }

-- a word with a value
abbrev pub word_with_value : List ℕ → Word
word_with_value name = record { name = name; takes_value = true }

-- the table: --replay, --workers N, --library DIR, --text DIR, --clock, --load N, --components, --relay
abbrev pub table : List Word
table = flag (codes "replay") ∷ word_with_value (codes "workers") ∷ word_with_value (codes "library") ∷ word_with_value (codes "text") ∷ flag (codes "clock") ∷ word_with_value (codes "load") ∷ flag (codes "components") ∷ flag (codes "relay") ∷ []

-- the table of what is asked of a printed output: --picture, --from N, --to N, --why N
abbrev pub look_table : List Word
look_table = flag (codes "picture") ∷ word_with_value (codes "from") ∷ word_with_value (codes "to") ∷ word_with_value (codes "why") ∷ []
