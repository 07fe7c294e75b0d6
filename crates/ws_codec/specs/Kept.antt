-- What is kept of a workspace that is saved.
use Rattle.std.specs.Prelude.{◌∷◌, [], ℕ, List, Some, None}
use Rattle.std.specs.List.{flat_map}
use Rattle.apl_workspace.specs.Meaning.{NameTable}
use Rattle.apl_workspace.specs.Workspace.{PlainWorkspace}
use Rattle.apl_workspace.specs.declared.meaning.Meaning.{Meaning}
use Rattle.apl_workspace.specs.declared.meaning.Meaning.TheVariants.{Nothing, Value, Function, Label, Shared}

-- what is kept of a name: a value, a function, and the own copy of a shared variable as a value
abbrev pub kept : List ℕ → Meaning → NameTable
kept name Nothing = []
kept name (Value value) = (name, Value value) ∷ []
kept name (Function function) = (name, Function function) ∷ []
kept name (Label line) = []
kept name (Shared None) = []
kept name (Shared (Some copy)) = (name, Value copy) ∷ []

-- the global names that are kept
abbrev pub kept_globals : NameTable → NameTable
kept_globals globals = flat_map (λ entry. kept entry.0 entry.1) globals

-- a workspace of these global names alone
abbrev pub workspace_of : NameTable → PlainWorkspace
workspace_of globals = record { globals = globals; frames = []; offers = []; printed = 0 }
