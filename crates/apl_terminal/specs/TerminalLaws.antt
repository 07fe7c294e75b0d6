-- What printing alone leaves of a terminal, and what it has once a definition is closed.
use Rattle.std.specs.Prelude.{◌≡◌, ◌++◌, ℕ, List, None}
use Rattle.apl_workspace.specs.Function.{PlainFunction}
use Rattle.apl_workspace.specs.Workspace.{global_in}
use Rattle.apl_workspace.specs.declared.meaning.Meaning.TheVariants.{Function}
use Rattle.fn_editor.specs.Editing.{fed}
use Rattle.fn_editor.specs.Editor.{PlainEditor}
use Rattle.fn_editor.specs.Prompt.{prompt_text}
use Rattle.apl_terminal.specs.Terminal.{PlainTerminal, echoing, editing}

-- lines were printed, and all but the transcript is as it was
pub record OnlyPrints (before after : PlainTerminal) : Type 0 where
  pub workspace : after.workspace ≡ before.workspace
  pub id : after.id ≡ before.id
  pub ended : after.ended ≡ before.ended
  pub definition : after.definition ≡ before.definition
  pub lines : List (List ℕ)
  pub printed : after.transcript ≡ before.transcript ++ lines

-- what a line leaves that is read while a definition is open: it is echoed behind the prompt, and does what it does there
abbrev pub read_by : PlainEditor → List ℕ → PlainTerminal → PlainTerminal
read_by editor line t = editing line (fed editor line) (echoing (prompt_text editor.number) line t)

-- no definition is open, and the workspace has this function by its name
pub record HasFunction (function : PlainFunction) (t : PlainTerminal) : Type 0 where
  pub definition : t.definition ≡ None
  pub named : global_in t.workspace function.header.name ≡ Function function
