-- The command that a line is, and what it leads to.
use Rattle.std.specs.Prelude.{ℕ, List, [], ◌∷◌, Option, Some, None, find}
use Rattle.apl_arrays.specs.Name.{same_name}
use Rattle.apl_workspace.specs.Workspace.{PlainWorkspace}
use Rattle.ws_commands.specs.Command.{PlainCommand, objects_in, workspace_in}
use Rattle.ws_commands.specs.Row.{all_words, row_of_word}
use Rattle.ws_commands.specs.Step.{Step, does}
use Rattle.ws_commands.specs.Todo.{incorrect}
use Rattle.ws_commands.specs.Words.{words_in}
use Rattle.ws_commands.specs.declared.word.CommandWord.{CommandWord}

-- the word that is written so
abbrev pub command_word_of : List ℕ → Option CommandWord
command_word_of text = find (λ word. same_name (row_of_word word).text text) all_words

-- a command with objects, where they are ones
abbrev pub with_objects : CommandWord → Option (List ℕ) → Option (List (List ℕ)) → Option PlainCommand
with_objects word workspace None = None
with_objects word workspace (Some objects) = Some (record { word = word; workspace = workspace; objects = objects })

-- a command with the name of a workspace, or without one, and the words behind it
abbrev pub command_with_workspace : CommandWord → Option (Option (List ℕ) × List (List ℕ)) → Option PlainCommand
command_with_workspace word None = None
command_with_workspace word (Some found) = with_objects word found.0 (objects_in (row_of_word word).objects found.1)

-- a command of this word and the words behind it, where its row takes them
abbrev pub with_arguments : Option CommandWord → List (List ℕ) → Option PlainCommand
with_arguments None words = None
with_arguments (Some word) words = command_with_workspace word (workspace_in (row_of_word word).workspace words)

-- the command that words are
abbrev pub command_in : List (List ℕ) → Option PlainCommand
command_in [] = None
command_in (text ∷ words) = with_arguments (command_word_of text) words

-- what a command leads to; anything else is an incorrect one
abbrev pub step_of_command : Option PlainCommand → PlainWorkspace → Option (List ℕ) → Step
step_of_command None w id = does incorrect
step_of_command (Some command) w id = (row_of_word command.word).step command w id

-- what a line leads to, on a workspace with this id
abbrev pub step_of : List ℕ → PlainWorkspace → Option (List ℕ) → Step
step_of line w id = step_of_command (command_in (words_in line)) w id
