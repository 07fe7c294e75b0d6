-- What names weigh that are copied, and those that they replace.
use Rattle.std.specs.Prelude.{ℕ, List, filter, sum_by}
use Rattle.apl_workspace.specs.Meaning.{meaning_weight}
use Rattle.apl_workspace.specs.Workspace.{PlainWorkspace, global_in}
use Rattle.apl_execute.specs.Merge.{each_once, is_copied}

-- the names of these that are copied, each once
abbrev pub copied_once : PlainWorkspace → PlainWorkspace → List (List ℕ) → List (List ℕ)
copied_once into from names = filter (is_copied into from) (each_once names)

-- what global names weigh
abbrev pub names_weight : PlainWorkspace → List (List ℕ) → ℕ
names_weight w names = sum_by (λ name. meaning_weight (global_in w name)) names
