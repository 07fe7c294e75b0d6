-- Names of one workspace that are copied into another.
use Rattle.std.specs.Prelude.{◌≡◌, ◌<◌, ◌&&◌, ◌++◌, ℕ, Bool, not, List, [], ◌∷◌, Option, Some, None, filter, fold, is_some, if◌then◌else◌}
use Rattle.std.specs.List.{list_any}
use Rattle.apl_arrays.specs.declared.report.Fail.{Fail}
use Rattle.apl_arrays.specs.declared.report.Fail.TheVariants as fail
use Rattle.apl_arrays.specs.declared.report.Report.TheVariants.{WsFull}
use Rattle.apl_workspace.specs.Limits.{most_weight}
use Rattle.apl_workspace.specs.Listing.{all_names}
use Rattle.apl_workspace.specs.Meaning.{NameTable, with_meaning, without_names}
use Rattle.apl_arrays.specs.Name.{same_name}
use Rattle.apl_workspace.specs.Workspace.{PlainWorkspace, global_in, is_shared, workspace_weight}
use Rattle.apl_workspace.specs.declared.meaning.Meaning.{Meaning}
use Rattle.apl_workspace.specs.declared.meaning.Meaning.TheVariants.{Nothing, Value, Function, Label, Shared}

-- names with one more, where it is not among them
abbrev pub with_mention : List (List ℕ) → List ℕ → List (List ℕ)
with_mention names name = if list_any (same_name name) names then names else names ++ name ∷ []

-- the names, each once, where it is first mentioned
abbrev pub each_once : List (List ℕ) → List (List ℕ)
each_once names = fold with_mention [] names

-- the names that are asked for: these, each once, or all of a workspace
abbrev pub asked : PlainWorkspace → Option (List (List ℕ)) → List (List ℕ)
asked from None = all_names from
asked from (Some names) = each_once names

-- what is copied of a global: a value or a function as it is, of a shared variable its own copy, and nothing of one without a value
abbrev pub copied_as : Meaning → Option Meaning
copied_as Nothing = None
copied_as (Value value) = Some (Value value)
copied_as (Function function) = Some (Function function)
copied_as (Label line) = None
copied_as (Shared None) = None
copied_as (Shared (Some value)) = Some (Value value)

-- what a workspace has under a name to be copied
abbrev pub copy_in : PlainWorkspace → List ℕ → Option Meaning
copy_in from name = copied_as (global_in from name)

-- a workspace lacks the name
abbrev pub is_missing : PlainWorkspace → List ℕ → Bool
is_missing from name = not (is_some (copy_in from name))

-- the name is there, and shared in the workspace that it would be copied into
abbrev pub is_kept : PlainWorkspace → PlainWorkspace → List ℕ → Bool
is_kept into from name = is_some (copy_in from name) && is_shared into name

-- the name is there, and is copied
abbrev pub is_copied : PlainWorkspace → PlainWorkspace → List ℕ → Bool
is_copied into from name = is_some (copy_in from name) && not (is_shared into name)

-- the names with one that stands for this, where there is something
abbrev pub with_name_copied : NameTable → List ℕ → Option Meaning → NameTable
with_name_copied globals name None = globals
with_name_copied globals name (Some meaning) = with_meaning globals name meaning

-- the names with these as another workspace has them
abbrev pub with_copies : PlainWorkspace → NameTable → List (List ℕ) → NameTable
with_copies from globals [] = globals
with_copies from globals (name ∷ names) = with_copies from (with_name_copied globals name (copy_in from name)) names

-- a workspace with these names as another has them: they go, and then come from there
abbrev pub with_names : PlainWorkspace → PlainWorkspace → List (List ℕ) → PlainWorkspace
with_names into from names = record into { globals = with_copies from (without_names into.globals names) names }

-- the names of those asked for that are copied
abbrev pub copied_names : PlainWorkspace → PlainWorkspace → Option (List (List ℕ)) → List (List ℕ)
copied_names into from names = filter (is_copied into from) (asked from names)

-- the workspace with the names copied; its marks, offers and all other names are as they were
abbrev pub merged : PlainWorkspace → PlainWorkspace → Option (List (List ℕ)) → PlainWorkspace
merged into from names = with_names into from (copied_names into from names)

-- why names were not copied: the workspace would weigh more than it may, or memory ran out before that was known
abbrev pub IsNotMerged : PlainWorkspace → Fail → Type 0
IsNotMerged w (fail.Report report) = (report ≡ WsFull) × (most_weight < workspace_weight w)
IsNotMerged w fail.WantOfMemory = Unit {0}
