-- What commands leave of what a user works on: names that are shared no more, a change, offers that are made again, and lines.
use Rattle.std.specs.Prelude.{ℕ, Bool, true, false, List, [], ◌∷◌, Option, Some, None}
use Rattle.apl_arrays.specs.Array.{PlainArray}
use Rattle.apl_arrays.specs.Report.{report_text}
use Rattle.apl_arrays.specs.declared.report.Report.{Report}
use Rattle.apl_workspace.specs.Workspace.{PlainWorkspace, marked, unmarked, unmarked_with_copy}
use Rattle.apl_workspace.specs.declared.remake.Remake.{Remake}
use Rattle.sv_events.specs.Answer.{PlainAnswer, kept}
use Rattle.ws_commands.specs.Finish.{changed, changed_id, is_off}
use Rattle.ws_commands.specs.Todo.{PlainChange}
use Rattle.apl_terminal.specs.Terminal.{PlainTerminal, printing, showing}

-- the value that an answer keeps for a name, or none, where it keeps one
abbrev pub value_kept : PlainAnswer → Option (Option PlainArray)
value_kept (kept degree value) = Some value
value_kept _ = None

-- a name is shared no more: it has the value that was kept for it, or its own copy where nothing was
abbrev pub unshared_with : Option (Option PlainArray) → List ℕ → PlainWorkspace → PlainWorkspace
unshared_with None name w = unmarked_with_copy w name
unshared_with (Some value) name w = unmarked w name value

-- a name of the workspace is shared no more, by the answer to its retraction
abbrev pub unsharing : List ℕ → PlainAnswer → PlainTerminal → PlainTerminal
unsharing name answer t = record t { workspace = unshared_with (value_kept answer) name t.workspace }

-- a name of the workspace is shared, with this copy of its value
abbrev pub terminal_sharing : Remake → Option PlainArray → PlainTerminal → PlainTerminal
terminal_sharing offer copy t = record t { workspace = marked t.workspace offer copy }

-- a change is made of the workspace and its id, or it ends the session
abbrev pub finishing : PlainChange → PlainTerminal → PlainTerminal
finishing change t = record t { workspace = changed change t.workspace; id = changed_id change t.id; ended = is_off change }

-- the lines of a command are printed; those whose glyphs are counted are shown as the editor's are
abbrev pub telling : List ℕ → Bool → List (List ℕ) → PlainTerminal → PlainTerminal
telling line true lines t = showing line lines t
telling line false lines t = printing lines t

-- the name of a report is printed, alone
abbrev pub naming_alone : Report → PlainTerminal → PlainTerminal
naming_alone report t = printing (report_text report ∷ []) t
