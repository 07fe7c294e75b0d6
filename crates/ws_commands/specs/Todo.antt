-- What is to be done for a command, as plain data.
use Rattle.std.specs.Prelude.{ℕ, Bool, true, false, not, List, [], ◌∷◌, codes, filter}
use Rattle.std.specs.List.{list_any}
use Rattle.apl_arrays.specs.Name.{same_name}
use Rattle.apl_workspace.specs.Listing.{names_asked}
use Rattle.apl_workspace.specs.Workspace.{PlainWorkspace}
use Rattle.apl_workspace.specs.declared.remake.Remake.{Remake}
use Rattle.apl_workspace.specs.declared.what.What.TheVariants.{Shares}
use Rattle.ws_commands.specs.declared.todo.Change.{Change}
use Rattle.ws_commands.specs.declared.todo.Change.TheVariants.{Keep, Clear, Replace, Swap, Erase, SetId, Off}
use Rattle.ws_commands.specs.declared.todo.Todo.{Todo}

-- a change of the workspace and its id: none; both are cleared; both are replaced; the workspace alone is; names are erased; the id is set; and the end of the session
pub data PlainChange : Type 0 where
  keep : PlainChange
  clear : PlainChange
  replace : PlainWorkspace → List ℕ → PlainChange
  swap : PlainWorkspace → PlainChange
  erase : List (List ℕ) → PlainChange
  set_id : List ℕ → PlainChange
  off : PlainChange

-- a change, whatever room its list has
abbrev pub plain_change : Change → PlainChange
plain_change Keep = keep
plain_change Clear = clear
plain_change (Replace workspace name) = replace workspace name
plain_change (Swap workspace) = swap workspace
plain_change (Erase names) = erase names.items
plain_change (SetId name) = set_id name
plain_change Off = off

-- shared names to be retracted, lines to be printed, whether their glyphs are counted, a change, and offers to be made again
pub record PlainTodo : Type 0 where
  pub retract : List (List ℕ)
  pub lines : List (List ℕ)
  pub counted : Bool
  pub change : PlainChange
  pub remakes : List Remake

-- what is to be done, whatever room its lists have
abbrev pub plain_todo : Todo → PlainTodo
plain_todo todo = record { retract = todo.retract.items; lines = todo.lines.items; counted = todo.counted; change = plain_change todo.change; remakes = todo.remakes.items }

-- a name is among these
abbrev pub is_among : List (List ℕ) → List ℕ → Bool
is_among names name = list_any (same_name name) names

-- a name is not this one
abbrev pub is_another : List ℕ → List ℕ → Bool
is_another name other = not (same_name name other)

-- the shared names of a workspace that a change gives up, ascending: all, or those that are erased
abbrev pub given_up : PlainChange → PlainWorkspace → List (List ℕ)
given_up keep w = []
given_up clear w = names_asked Shares w
given_up (replace workspace name) w = names_asked Shares w
given_up (swap workspace) w = []
given_up (erase names) w = filter (is_among names) (names_asked Shares w)
given_up (set_id name) w = []
given_up off w = []

-- a change and lines: the shared names that it gives up are retracted first
abbrev pub doing : PlainWorkspace → PlainChange → List (List ℕ) → PlainTodo
doing w change lines = record { retract = given_up change w; lines = lines; counted = false; change = change; remakes = [] }

-- lines and nothing else
abbrev pub saying : List (List ℕ) → PlainTodo
saying lines = record { retract = []; lines = lines; counted = false; change = keep; remakes = [] }

-- lines whose glyphs are counted, and nothing else
abbrev pub counting : List (List ℕ) → PlainTodo
counting lines = record { retract = []; lines = lines; counted = true; change = keep; remakes = [] }

-- an id and lines, and nothing else
abbrev pub id_and_lines : List ℕ → List (List ℕ) → PlainTodo
id_and_lines name lines = record { retract = []; lines = lines; counted = false; change = set_id name; remakes = [] }

-- what is no command, or a command with something else behind it than it takes
abbrev pub incorrect : PlainTodo
incorrect = saying (codes "INCORRECT COMMAND" ∷ [])

-- a call of the shelf failed
abbrev pub faulted : PlainTodo
faulted = saying (codes "LIBRARY FAULT" ∷ [])

-- the shelf has nothing under a name
abbrev pub unknown : PlainTodo
unknown = saying (codes "WS NOT FOUND" ∷ [])

-- the shelf has bytes under a name that are no workspace
abbrev pub damaged : PlainTodo
damaged = saying (codes "WS DAMAGED" ∷ [])
