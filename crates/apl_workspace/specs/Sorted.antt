-- Entries that stand in any order, put in order.
use Rattle.std.specs.Prelude.{ℕ, List, [], ◌∷◌}
use Rattle.apl_workspace.specs.Meaning.{NameTable, with_meaning}
use Rattle.apl_workspace.specs.declared.meaning.Meaning.{Meaning}

-- entries by the order of their names; of two with one name the first counts
abbrev pub sorted : List (List ℕ × Meaning) → NameTable
sorted [] = []
sorted (entry ∷ entries) = with_meaning (sorted entries) entry.0 entry.1
