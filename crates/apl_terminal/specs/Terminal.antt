-- What a user works on, and what is printed there by lines that ask no act: those of the editor, and reports.
use Rattle.std.specs.Prelude.{◌≡◌, ◌+◌, ◌++◌, ℕ, Bool, true, false, List, [], ◌∷◌, Option, Some, None, IfSome, length, nat_le, replicate, sum_by, if◌then◌else◌}
use Rattle.apl_arrays.specs.Glyph.{blank}
use Rattle.apl_arrays.specs.declared.report.Report.{Report}
use Rattle.apl_arrays.specs.declared.report.Report.TheVariants.{Defn, Interrupt, WsFull}
use Rattle.apl_meaning.specs.Printing.{input_shown, report_lines}
use Rattle.apl_workspace.specs.Limits.{most_printed, most_weight}
use Rattle.apl_workspace.specs.Meaning.{is_variable_meaning}
use Rattle.apl_workspace.specs.Workspace.{PlainWorkspace, empty_workspace, global_in, with_global, with_printed, workspace_weight}
use Rattle.apl_workspace.specs.declared.meaning.Meaning.TheVariants.{Function}
use Rattle.fn_editor.specs.Editing.{Edited}
use Rattle.fn_editor.specs.Editor.{PlainEditor, defined_function}

-- a user's workspace and its id, if it has one; the definition that is open, if one is; the lines that were echoed and printed; and whether the user has ended the session
pub record PlainTerminal : Type 0 where
  pub workspace : PlainWorkspace
  pub id : Option (List ℕ)
  pub definition : Option PlainEditor
  pub transcript : List (List ℕ)
  pub ended : Bool

-- the name of a definition that is open is no variable's, and no line closed it
pub record IsDefinable (w : PlainWorkspace) (editor : PlainEditor) : Type 0 where
  pub name : is_variable_meaning (global_in w editor.header.name) ≡ false
  pub stays : editor.closed ≡ false

-- what holds of every terminal: no function is under way, and a definition that is open may be closed
pub record IsTerminal (t : PlainTerminal) : Type 0 where
  pub frames : t.workspace.frames ≡ []
  pub definition : IfSome t.definition (IsDefinable t.workspace)

-- an empty workspace without an id, and nothing printed
abbrev pub new_terminal : PlainTerminal
new_terminal = record { workspace = empty_workspace; id = None; definition = None; transcript = []; ended = false }

-- lines are printed
abbrev pub printing : List (List ℕ) → PlainTerminal → PlainTerminal
printing lines t = record t { transcript = t.transcript ++ lines }

-- the prompt where no definition is open: six blanks
abbrev pub free_prompt : List ℕ
free_prompt = replicate 6 blank

-- a line is echoed behind a prompt
abbrev pub echoing : List ℕ → List ℕ → PlainTerminal → PlainTerminal
echoing prompt line t = printing ((prompt ++ line) ∷ []) t

-- a report is printed: its name, and the line as read
abbrev pub reporting : Report → List ℕ → PlainTerminal → PlainTerminal
reporting report line t = printing (report_lines report (input_shown line)) t

-- how many glyphs lines have
abbrev pub glyph_count : List (List ℕ) → ℕ
glyph_count lines = sum_by length lines

-- lines that the editor shows are printed and their glyphs counted; where these would pass the limit none is printed, and that is INTERRUPT
abbrev pub showing : List ℕ → List (List ℕ) → PlainTerminal → PlainTerminal
showing line shown t =
    if nat_le (t.workspace.printed + glyph_count shown) most_printed
    then printing shown (record t { workspace = with_printed t.workspace (glyph_count shown) })
    else reporting Interrupt line t

-- the workspace is this one from now on; where it would weigh too much the old one stays, and that is WS FULL
abbrev pub taking_definition : List ℕ → PlainWorkspace → PlainTerminal → PlainTerminal
taking_definition line w t = if nat_le (workspace_weight w) most_weight then record t { workspace = w } else reporting WsFull line t

-- a workspace with the function of a definition that is done
abbrev pub with_done : PlainWorkspace → PlainEditor → PlainWorkspace
with_done w editor = with_global w editor.header.name (Function (defined_function editor))

-- a definition is closed, and its function defined, or it stays open
abbrev pub closing : List ℕ → PlainEditor → Bool → PlainTerminal → PlainTerminal
closing line editor true t = taking_definition line (with_done t.workspace editor) (record t { definition = None })
closing line editor false t = record t { definition = Some editor }

-- what a line of the editor leaves, by what it did: it shows lines, and then it may close the definition; where it did nothing, that is DEFN ERROR
abbrev pub editing : List ℕ → Option Edited → PlainTerminal → PlainTerminal
editing line None t = reporting Defn line t
editing line (Some done) t = closing line done.editor done.editor.closed (showing line done.shown t)
