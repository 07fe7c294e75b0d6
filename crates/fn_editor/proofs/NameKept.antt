-- What a line leaves of a definition has its name, and what is opened is no variable.
use Rattle.std.proofs.Common.{◌≡◌, ℕ, Bool, true, false, cond, ◌&&◌, List, length, Option, Some, None, Result, Ok, Err, IfOk, refl, sym, ap, subst, ◌∙◌}
use Rattle.std.specs.Prelude.{nat_le}
use Rattle.std.specs.Option.{option_map}
use Rattle.std.proofs.lemmas.Bool.{and_parts}
use Rattle.apl_arrays.specs.declared.report.Fail.{Fail}
use Rattle.apl_arrays.specs.Limits.{most_line_glyphs}
use Rattle.apl_arrays.specs.Glyph.{left_bracket}
use Rattle.apl_workspace.specs.Blanks.{without_blanks}
use Rattle.apl_workspace.specs.Function.{PlainFunction}
use Rattle.apl_workspace.specs.Header.{PlainHeader, header_of}
use Rattle.apl_workspace.specs.Meaning.{IsWhole, is_variable_meaning}
use Rattle.apl_workspace.specs.Workspace.{PlainWorkspace, global_in}
use Rattle.apl_workspace.specs.declared.meaning.Meaning.TheVariants.{Function}
use Rattle.apl_workspace.proofs.NameLaw as names
use Rattle.fn_editor.specs.Bracket.{bracket_in}
use Rattle.fn_editor.specs.Closing.{behind_glyph, is_blank_text}
use Rattle.apl_arrays.specs.Name.{same_name}
use Rattle.fn_editor.specs.Editing.{Edited, by_bracket, bracket_done, deleted, edited, edited_by, entered, is_in_reach, may_enter, quietly, with_current_number, with_header, with_text}
use Rattle.fn_editor.specs.Editor.{PlainEditor, has_line, shown_definition}
use Rattle.fn_editor.specs.declared.bracket.Bracket.{Bracket}
use Rattle.fn_editor.specs.declared.bracket.Bracket.TheVariants.{Show, Delete, Header, At}

-- where there is a definition, it has this name
abbrev Named : List ℕ → Option PlainEditor → Type 0
Named name None = Unit {0}
Named name (Some editor) = editor.header.name ≡ name

-- where something was done, the definition has this name
abbrev KeepsName : List ℕ → Option Edited → Type 0
KeepsName name None = Unit {0}
KeepsName name (Some done) = done.editor.header.name ≡ name

quietly_named : (name : List ℕ) (made : Option PlainEditor) → Named name made → KeepsName name (option_map quietly made)
quietly_named name None h = tt
quietly_named name (Some editor) h = h

text_by : (editor : PlainEditor) (text : List ℕ) (blank may : Bool) → Named editor.header.name (cond blank (Some editor) (cond may (Some (entered editor text)) None))
text_by editor text true may = refl
text_by editor text false true = refl
text_by editor text false false = tt

header_by : (editor : PlainEditor) (text : List ℕ) (header : PlainHeader) (b : Bool) → (nat_le (length text) most_line_glyphs && same_name editor.header.name header.name) ≡ b → Named editor.header.name (cond b (Some (record editor { text = text; header = header })) None)
header_by editor text header true e =
    let parts = and_parts (nat_le (length text) most_line_glyphs) (same_name editor.header.name header.name) e in
    sym (names.equal_names editor.header.name header.name parts.1)
header_by editor text header false e = tt

header_named : (editor : PlainEditor) (text : List ℕ) (header : Option PlainHeader) → Named editor.header.name (with_header editor text header)
header_named editor text None = tt
header_named editor text (Some header) = header_by editor text header (nat_le (length text) most_line_glyphs && same_name editor.header.name header.name) refl

shown_by : (editor : PlainEditor) (b : Bool) → KeepsName editor.header.name (cond b (Some (record { editor = editor; shown = shown_definition editor })) None)
shown_by editor true = refl
shown_by editor false = tt

deleted_by : (editor : PlainEditor) (number : ℕ) (b : Bool) → KeepsName editor.header.name (cond b (Some (quietly (deleted editor number))) None)
deleted_by editor number true = refl
deleted_by editor number false = tt

reached_by : (editor : PlainEditor) (number : ℕ) (text : List ℕ) (b : Bool) → KeepsName editor.header.name (cond b (option_map quietly (with_text (with_current_number editor number) text)) None)
reached_by editor number text true = quietly_named editor.header.name (with_text (with_current_number editor number) text) (text_by (with_current_number editor number) text (is_blank_text text) (may_enter (with_current_number editor number) text))
reached_by editor number text false = tt

commanded_named : (editor : PlainEditor) (bracket : Bracket) (text : List ℕ) → KeepsName editor.header.name (bracket_done editor bracket text)
commanded_named editor Show text = shown_by editor (is_blank_text text)
commanded_named editor (Delete number) text = deleted_by editor number (is_blank_text text && has_line editor.lines number)
commanded_named editor Header text = quietly_named editor.header.name (with_header editor text (header_of text)) (header_named editor text (header_of text))
commanded_named editor (At number) text = reached_by editor number text (is_in_reach editor number)

bracket_named : (editor : PlainEditor) (found : Option (Bracket × List ℕ)) → KeepsName editor.header.name (by_bracket editor found)
bracket_named editor None = tt
bracket_named editor (Some found) = commanded_named editor found.0 found.1

edited_named : (editor : PlainEditor) (line : List ℕ) (rest : Option (List ℕ)) → KeepsName editor.header.name (edited_by editor line rest)
edited_named editor line None = quietly_named editor.header.name (with_text editor line) (text_by editor line (is_blank_text line) (may_enter editor line))
edited_named editor line (Some rest) = bracket_named editor (bracket_in rest)

-- what a line does keeps the name
pub edited_keeps_name : (editor : PlainEditor) (line : List ℕ) (done : Edited) → edited editor line ≡ Some done → done.editor.header.name ≡ editor.header.name
edited_keeps_name editor line done is = subst (KeepsName editor.header.name) is (edited_named editor line (behind_glyph left_bracket (without_blanks line)))

-- so does what a bracket does
pub bracket_keeps_name : (editor : PlainEditor) (rest : List ℕ) (done : Edited) → by_bracket editor (bracket_in rest) ≡ Some done → done.editor.header.name ≡ editor.header.name
bracket_keeps_name editor rest done is = subst (KeepsName editor.header.name) is (bracket_named editor (bracket_in rest))

-- the name of a function that is there is no variable
pub function_is_no_variable : (w : PlainWorkspace) (name : List ℕ) (function : PlainFunction) → IsWhole name (global_in w name) → Function function ≡ global_in w name → is_variable_meaning (global_in w function.header.name) ≡ false
function_is_no_variable w name function whole is =
    let both : IsWhole name (Function function) = subst (IsWhole name) (sym is) whole in
    ap (λ (n : List ℕ). is_variable_meaning (global_in w n)) both.1 ∙ ap is_variable_meaning (sym is)

-- and so is that of a definition with its name
pub name_is_no_variable : {B : Type 0} (w : PlainWorkspace) (name : List ℕ) (result : Result (PlainEditor × B) Fail) → is_variable_meaning (global_in w name) ≡ false → IfOk result (λ done. done.0.header.name ≡ name) → IfOk result (λ done. is_variable_meaning (global_in w done.0.header.name) ≡ false)
name_is_no_variable w name (Ok done) none named = ap (λ (n : List ℕ). is_variable_meaning (global_in w n)) named ∙ none
name_is_no_variable w name (Err fail) none named = tt
