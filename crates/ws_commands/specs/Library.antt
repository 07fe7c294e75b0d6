-- Commands on the shelf of saved workspaces.
use Rattle.std.specs.Prelude.{ℕ, Bool, List, [], ◌∷◌, ◌++◌, Option, Some, None, Result, Ok, Err, codes, nat_le, if◌then◌else◌}
use Rattle.std.specs.List.{flat_map}
use Rattle.apl_execute.specs.Merge.{is_missing, merged}
use Rattle.apl_workspace.specs.Limits.{most_weight}
use Rattle.apl_workspace.specs.Listing.{all_names}
use Rattle.apl_workspace.specs.Workspace.{PlainWorkspace, is_shared, workspace_weight}
use Rattle.ws_codec.specs.Saved.{PlainSaved, saved_reading}
use Rattle.ws_codec.specs.SavedText.{saved}
use Rattle.ws_codec.specs.declared.saved.SavedRule.{SavedRule}
use Rattle.ws_commands.specs.Mention.{mentions_of}
use Rattle.ws_commands.specs.Step.{Step, does, reads, writes, removes, lists}
use Rattle.ws_commands.specs.Todo.{PlainTodo, counting, damaged, doing, id_and_lines, replace, saying, swap, unknown}
use Rattle.ws_commands.specs.declared.mention.Mention.{Mention}

-- )SAVE, under the name that is given or the id, where there is one
abbrev pub saving : Option (List ℕ) → PlainWorkspace → Step
saving None w = does (saying (codes "WS NOT NAMED" ∷ []))
saving (Some name) w = writes name (saved w) (id_and_lines name ((codes "SAVED " ++ name) ∷ []))

-- a saved workspace comes in place of the active one, and its offers are to be made again
abbrev pub loaded_by : List ℕ → PlainWorkspace → Result PlainSaved (ℕ × SavedRule) → PlainTodo
loaded_by name w (Err fault) = damaged
loaded_by name w (Ok found) = record (doing w (replace found.workspace name) ((codes "LOADED " ++ name) ∷ [])) { remakes = found.remakes }

-- what the shelf has under a name comes in place of the active workspace
abbrev pub loaded : List ℕ → PlainWorkspace → Option (List ℕ) → PlainTodo
loaded name w None = unknown
loaded name w (Some bytes) = loaded_by name w (saved_reading bytes)

-- )LOAD
abbrev pub loading : List ℕ → PlainWorkspace → Step
loading name w = reads name (loaded name w)

-- the names that are asked for, where any are
abbrev pub names_asked_for : List (List ℕ) → Option (List (List ℕ))
names_asked_for [] = None
names_asked_for (name ∷ names) = Some (name ∷ names)

-- the names that are mentioned: these, or where there are none all of a workspace
abbrev pub mentioned : PlainWorkspace → List (List ℕ) → List (List ℕ)
mentioned from [] = all_names from
mentioned from (name ∷ names) = name ∷ names

-- the line of a name that is not copied: it is not there, or it is shared here
abbrev pub left_out : PlainWorkspace → PlainWorkspace → Mention → List (List ℕ)
left_out into from mention =
    if mention.repeated then []
    else if is_missing from mention.name then (codes "NOT FOUND: " ++ mention.name) ∷ []
    else if is_shared into mention.name then (codes "NOT COPIED: " ++ mention.name) ∷ []
    else []

-- what a copy says: from where, and which names were left out
abbrev pub copy_lines : List ℕ → List (List ℕ) → PlainWorkspace → PlainWorkspace → List (List ℕ)
copy_lines name objects into from = (codes "COPIED " ++ name) ∷ flat_map (left_out into from) (mentions_of (mentioned from objects))

-- names of another workspace come into the active one, unless that would weigh too much
abbrev pub copied_from : List ℕ → List (List ℕ) → PlainWorkspace → PlainWorkspace → PlainTodo
copied_from name objects w from =
    if nat_le (workspace_weight (merged w from (names_asked_for objects))) most_weight
    then doing w (swap (merged w from (names_asked_for objects))) (copy_lines name objects w from)
    else saying (codes "WS FULL" ∷ [])

-- names of a saved workspace come into the active one; its offers do not
abbrev pub copied_by : List ℕ → List (List ℕ) → PlainWorkspace → Result PlainSaved (ℕ × SavedRule) → PlainTodo
copied_by name objects w (Err fault) = damaged
copied_by name objects w (Ok found) = copied_from name objects w found.workspace

-- names of what the shelf has under a name come into the active workspace
abbrev pub copied : List ℕ → List (List ℕ) → PlainWorkspace → Option (List ℕ) → PlainTodo
copied name objects w None = unknown
copied name objects w (Some bytes) = copied_by name objects w (saved_reading bytes)

-- )COPY
abbrev pub copying : List ℕ → List (List ℕ) → PlainWorkspace → Step
copying name objects w = reads name (copied name objects w)

-- what the shelf had under a name is gone
abbrev pub dropped : List ℕ → Bool → PlainTodo
dropped name there = if there then saying ((codes "DROPPED " ++ name) ∷ []) else unknown

-- )DROP
abbrev pub dropping : List ℕ → Step
dropping name = removes name (dropped name)

-- )LIB
abbrev pub listing_library : Step
listing_library = lists counting
