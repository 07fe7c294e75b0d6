use Rattle.std.proofs.Common.{◌≡◌, ◌≤◌, ◌+◌, ◌∷◌, Bool, List, Option, Some, None, true, false, cond, [], ap, refl, subst, sym, ◌∙◌, ℕ}
use Rattle.std.proofs.lemmas.Bool.{le-leb}
use Rattle.std.specs.Prelude.{nat_le, sum_by, unwrap_or, if◌then◌else◌}
use Rattle.apl_arrays.specs.Glyph.{del}
use Rattle.apl_arrays.specs.declared.report.Report.TheVariants.{Interrupt, WsFull}
use Rattle.apl_workspace.proofs.Ascending.{found_with}
use Rattle.apl_workspace.proofs.NameLaw.{own_name}
use Rattle.apl_workspace.specs.Function.{PlainFunction}
use Rattle.apl_workspace.specs.Limits.{most_printed}
use Rattle.apl_workspace.specs.Meaning.{NameTable, meaning_in, table_weight, with_meaning}
use Rattle.apl_workspace.specs.Workspace.{PlainWorkspace, global_in, with_global, with_printed, workspace_weight}
use Rattle.apl_workspace.specs.declared.meaning.Meaning.{Meaning}
use Rattle.apl_workspace.specs.declared.meaning.Meaning.TheVariants.{Function, Nothing}
use Rattle.fn_editor.specs.Editing.{Edited, quietly}
use Rattle.fn_editor.specs.Editor.{defined_function, editor_of}
use Rattle.fn_editor.specs.OpeningLaws.{shut}
use Rattle.fn_editor.specs.Prompt.{prompt_text}
use Rattle.fn_editor.proofs.OpeningLaw.{shut_is_same}
use Rattle.apl_terminal.specs.Terminal.{PlainTerminal, closing, echoing, editing, glyph_count, printing, reporting, showing, with_done}
use Rattle.apl_terminal.specs.TerminalLaws.{HasFunction, read_by}
use Rattle.apl_terminal.proofs.laws.functions_opened_are_closed_by_the_next_line.Goals as goal

-- the names of a workspace are those of another
record SameNames (before after : PlainTerminal) : Type 0 where
  globals : after.workspace.globals ≡ before.workspace.globals
  frames : after.workspace.frames ≡ before.workspace.frames

-- nothing is shown, so the names are the same
shows_nothing : (line : List ℕ) (t : PlainTerminal) → SameNames t (showing line [] t)
shows_nothing line t = by (nat_le (t.workspace.printed + glyph_count []) most_printed)
  where
    by : (b : Bool) → SameNames t (if b then printing [] (record t { workspace = with_printed t.workspace (glyph_count []) }) else reporting Interrupt line t)
    by true = record { globals = refl; frames = refl }
    by false = record { globals = refl; frames = refl }

-- a workspace with the function weighs the same
same_weight : (function : PlainFunction) (t now : PlainTerminal) → SameNames t now → workspace_weight (with_done now.workspace (shut function).editor) ≡ workspace_weight (with_global t.workspace function.header.name (Function function))
same_weight function t now same =
    let w : PlainWorkspace = t.workspace in
    let name : List ℕ = function.header.name in
    ap (λ (table : NameTable). table_weight (with_meaning table name (Function (defined_function (shut function).editor))) + sum_by table_weight now.workspace.frames) same.globals
    ∙ ap (λ (frames : List NameTable). table_weight (with_meaning w.globals name (Function (defined_function (shut function).editor))) + sum_by table_weight frames) same.frames
    ∙ ap (λ (f : PlainFunction). table_weight (with_meaning w.globals name (Function f)) + sum_by table_weight w.frames) (shut_is_same function)

-- and it has the function
has_it : (function : PlainFunction) (w : PlainWorkspace) → global_in (with_done w (shut function).editor) function.header.name ≡ Function function
has_it function w =
    let name : List ℕ = function.header.name in
    let made : Meaning = Function (defined_function (shut function).editor) in
    ap (λ (m : Option Meaning). unwrap_or m Nothing) (found_with w.globals name made name ∙ ap (λ (b : Bool). cond b (Some made) (meaning_in w.globals name)) (own_name name))
    ∙ ap (λ (f : PlainFunction). Function f) (shut_is_same function)

-- a definition that is shut is closed
shut_there : (function : PlainFunction) (t now : PlainTerminal) (line : List ℕ) → SameNames t now → workspace_weight (with_global t.workspace function.header.name (Function function)) ≤ 4194304
    → HasFunction function (closing line (shut function).editor true now)
shut_there function t now line same fits =
    let v : PlainWorkspace = with_done now.workspace (shut function).editor in
    let dropped : PlainTerminal = record now { definition = None } in
    let few : workspace_weight v ≤ 4194304 = subst (λ (n : ℕ). n ≤ 4194304) (sym (same_weight function t now same)) fits in
    subst (λ (b : Bool). HasFunction function (if b then record dropped { workspace = v } else reporting WsFull line dropped)) (sym (le-leb (workspace_weight v) 4194304 few))
    (record { definition = refl; named = has_it function now.workspace })

-- the names are those before the line that opened it
after_opening : (function : PlainFunction) (line : List ℕ) (t : PlainTerminal) → SameNames t (editing line (Some (quietly (editor_of function))) t)
after_opening function line t = let same = shows_nothing line t in record { globals = same.globals; frames = same.frames }

pub returns-clause-opened : goal.returns-clause-opened
returns-clause-opened c = λ t line function is. subst (λ (o : Option Edited). (editing line o t).definition ≡ Some (editor_of function)) (sym is) refl

pub returns-clause-closed : goal.returns-clause-closed
returns-clause-closed c = λ t line function is fits.
    subst (λ (o : Option Edited). HasFunction function (read_by (editor_of function) (del ∷ []) (editing line o t))) (sym is)
    (let first : PlainTerminal = editing line (Some (quietly (editor_of function))) t in
    let read : PlainTerminal = echoing (prompt_text (editor_of function).number) (del ∷ []) first in
    let opening : SameNames t first = after_opening function line t in
    let closing_line : SameNames read (showing (del ∷ []) [] read) = shows_nothing (del ∷ []) read in
    shut_there function t (showing (del ∷ []) [] read) (del ∷ []) (record { globals = closing_line.globals ∙ opening.globals; frames = closing_line.frames ∙ opening.frames }) fits)
