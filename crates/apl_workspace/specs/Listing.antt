-- Lists of global names.
use Rattle.std.specs.Prelude.{◌≡◌, ℕ, Bool, true, List, Option, Some, None, filter, is_some}
use Rattle.std.specs.List.{list_any}
use Rattle.std.specs.Map.{keys_of}
use Rattle.apl_workspace.specs.Meaning.{NameTable, is_function_meaning, is_shared_meaning, is_variable_meaning, meaning_in}
use Rattle.apl_arrays.specs.Name.{same_name}
use Rattle.apl_workspace.specs.Names.{all_differ}
use Rattle.apl_workspace.specs.Workspace.{PlainWorkspace}
use Rattle.apl_workspace.specs.declared.meaning.Meaning.{Meaning}
use Rattle.apl_workspace.specs.declared.what.What.{What}
use Rattle.apl_workspace.specs.declared.what.What.TheVariants.{Functions, Variables, Shares}

-- what is asked for; shared names are variables too
abbrev pub is_asked : What → Meaning → Bool
is_asked Functions = is_function_meaning
is_asked Variables = is_variable_meaning
is_asked Shares = is_shared_meaning

-- what is asked for, or anything where nothing is
abbrev pub is_wanted : Option What → Meaning → Bool
is_wanted None meaning = true
is_wanted (Some what) meaning = is_asked what meaning

-- the names of a table that stand for what is asked, ascending
abbrev pub names_among : What → NameTable → List (List ℕ)
names_among what names = keys_of (filter (λ entry. is_asked what entry.1) names)

-- these are the names of a table, each once, in any order
pub record AreNamesOf (table : NameTable) (names : List (List ℕ)) : Type 0 where
  pub there : (name : List ℕ) → list_any (same_name name) names ≡ is_some (meaning_in table name)
  pub differ : all_differ names ≡ true

-- the global names of a workspace that stand for what is asked, ascending
abbrev pub names_asked : What → PlainWorkspace → List (List ℕ)
names_asked what w = names_among what w.globals

-- all global names of a workspace, ascending
abbrev pub all_names : PlainWorkspace → List (List ℕ)
all_names w = keys_of w.globals
