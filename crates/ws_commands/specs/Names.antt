-- Commands on the names of a workspace and on its id.
use Rattle.std.specs.Prelude.{ℕ, Bool, true, false, List, [], ◌∷◌, ◌++◌, ◌||◌, Option, Some, None, codes, if◌then◌else◌}
use Rattle.std.specs.List.{flat_map}
use Rattle.apl_workspace.specs.Workspace.{PlainWorkspace, global_in}
use Rattle.apl_workspace.specs.declared.meaning.Meaning.{Meaning}
use Rattle.apl_workspace.specs.declared.meaning.Meaning.TheVariants.{Nothing, Value, Function, Label, Shared}
use Rattle.ws_commands.specs.Mention.{mentions_of}
use Rattle.ws_commands.specs.Todo.{PlainTodo, clear, counting, doing, erase, id_and_lines, off, saying}
use Rattle.ws_commands.specs.declared.mention.Mention.{Mention}

-- )CLEAR
abbrev pub clearing : PlainWorkspace → PlainTodo
clearing w = doing w clear (codes "CLEAR WS" ∷ [])

-- )OFF
abbrev pub ending_session : PlainTodo
ending_session = record { retract = []; lines = []; counted = false; change = off; remakes = [] }

-- a name behind two blanks
abbrev pub behind_blanks : List ℕ → List ℕ
behind_blanks name = codes "  " ++ name

-- names on one line with two blanks between, and no line for none
abbrev pub names_line : List (List ℕ) → List (List ℕ)
names_line [] = []
names_line (name ∷ names) = (name ++ flat_map behind_blanks names) ∷ []

-- )FNS and )VARS
abbrev pub listing : List (List ℕ) → PlainTodo
listing names = counting (names_line names)

-- a name that stands for this is not there
abbrev pub is_nothing : Meaning → Bool
is_nothing Nothing = true
is_nothing (Value value) = false
is_nothing (Function function) = false
is_nothing (Label line) = false
is_nothing (Shared copy) = false

-- the line of a name that is not there, or that was erased by an earlier mention
abbrev pub unfound : PlainWorkspace → Mention → List (List ℕ)
unfound w mention = if mention.repeated || is_nothing (global_in w mention.name) then (codes "NOT FOUND: " ++ mention.name) ∷ [] else []

-- )ERASE
abbrev pub erasing : List (List ℕ) → PlainWorkspace → PlainTodo
erasing names w = doing w (erase names) (flat_map (unfound w) (mentions_of names))

-- what the id is
abbrev pub id_line : Option (List ℕ) → List ℕ
id_line None = codes "CLEAR WS"
id_line (Some name) = codes "IS " ++ name

-- what the id was
abbrev pub old_id_line : Option (List ℕ) → List ℕ
old_id_line None = codes "WAS CLEAR WS"
old_id_line (Some name) = codes "WAS " ++ name

-- )WSID, without a name or with one
abbrev pub identifying : Option (List ℕ) → Option (List ℕ) → PlainTodo
identifying None id = saying (id_line id ∷ [])
identifying (Some name) id = id_and_lines name (old_id_line id ∷ [])
