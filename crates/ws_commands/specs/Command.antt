-- Commands with what stands behind their words.
use Rattle.std.specs.Prelude.{ℕ, Bool, not, List, [], ◌∷◌, ◌&&◌, ◌==◌, Option, Some, None, if◌then◌else◌}
use Rattle.std.specs.List.{list_all, list_any}
use Rattle.apl_arrays.specs.Glyph.{delta}
use Rattle.apl_arrays.specs.Name.{is_name}
use Rattle.ws_commands.specs.declared.command.Command.{Command}
use Rattle.ws_commands.specs.declared.word.Need.{Need}
use Rattle.ws_commands.specs.declared.word.Need.TheVariants.{No, May, Must}
use Rattle.ws_commands.specs.declared.word.CommandWord.{CommandWord}

-- a command: its word, the name of a workspace, where one is given, and the names of objects
pub record PlainCommand : Type 0 where
  pub word : CommandWord
  pub workspace : Option (List ℕ)
  pub objects : List (List ℕ)

-- a command, whatever room its list has
abbrev pub plain_command : Command → PlainCommand
plain_command command = record { word = command.word; workspace = command.workspace; objects = command.objects.items }

-- the glyph ∆
abbrev pub is_delta : ℕ → Bool
is_delta glyph = glyph == delta

-- the name of a workspace: a name without ∆
abbrev pub workspace_name : List ℕ → Option (List ℕ)
workspace_name word = if is_name word && not (list_any is_delta word) then Some word else None

-- the name of a workspace, where there is one, and the words behind it
abbrev pub with_words : Option (List ℕ) → List (List ℕ) → Option (Option (List ℕ) × List (List ℕ))
with_words None words = None
with_words (Some name) words = Some (Some name, words)

-- the name of a workspace in front of words, where one may or must stand, and the words behind it
abbrev pub workspace_in : Need → List (List ℕ) → Option (Option (List ℕ) × List (List ℕ))
workspace_in No words = Some (None, words)
workspace_in May [] = Some (None, [])
workspace_in May (word ∷ words) = with_words (workspace_name word) words
workspace_in Must [] = None
workspace_in Must (word ∷ words) = with_words (workspace_name word) words

-- words that are names
abbrev pub names_in : List (List ℕ) → Option (List (List ℕ))
names_in words = if list_all is_name words then Some words else None

-- the names of objects that words are, where some may or must stand
abbrev pub objects_in : Need → List (List ℕ) → Option (List (List ℕ))
objects_in No [] = Some []
objects_in No (word ∷ words) = None
objects_in May words = names_in words
objects_in Must [] = None
objects_in Must (word ∷ words) = names_in (word ∷ words)
