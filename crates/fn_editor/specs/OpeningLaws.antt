-- What opens a definition, read off the line.
use Rattle.std.specs.Prelude.{◌≡◌, ◌≤◌, ◌++◌, ℕ, Bool, true, false, List, [], ◌∷◌, Some, None, length}
use Rattle.apl_arrays.specs.Glyph.{del, left_bracket}
use Rattle.apl_arrays.specs.Name.{IsName}
use Rattle.apl_workspace.specs.Function.{PlainFunction}
use Rattle.apl_workspace.specs.Header.{PlainHeader, header_of}
use Rattle.apl_workspace.specs.Workspace.{PlainWorkspace, global_in}
use Rattle.apl_workspace.specs.declared.meaning.Meaning.TheVariants.{Nothing, Function}
use Rattle.fn_editor.specs.Bracket.{bracket_in}
use Rattle.fn_editor.specs.Closing.{IsBeforeClose, is_blank_text}
use Rattle.fn_editor.specs.Editing.{Edited, by_bracket, quietly, then_closed}
use Rattle.fn_editor.specs.Editor.{editor_of}
use Rattle.fn_editor.specs.Opening.{new_editor}

-- this stands behind a glyph, before which there are blanks alone
pub record IsBehind (glyph : ℕ) (line rest : List ℕ) : Type 0 where
  pub blanks : List ℕ
  pub whole : line ≡ blanks ++ glyph ∷ rest
  pub are_blank : is_blank_text blanks ≡ true

-- a name stands at the front and a bracket behind it, blanks aside, and this follows the [
pub record HasBracket (text name rest : List ℕ) : Type 0 where
  pub blanks : List ℕ
  pub more : List ℕ
  pub whole : text ≡ blanks ++ (name ++ more)
  pub are_blank : is_blank_text blanks ≡ true
  pub is_name : IsName name
  pub bracket : IsBehind left_bracket more rest

-- no bracket stands behind a name there
abbrev pub HasNoBracket : List ℕ → Type 0
HasNoBracket text = (name rest : List ℕ) → ¬ HasBracket text name rest

-- the header is a name, and nothing else
pub record IsBare (header : PlainHeader) : Type 0 where
  pub left : header.left ≡ None
  pub right : header.right ≡ None
  pub result : header.result ≡ None
  pub locals : header.locals ≡ []

-- what a text opens: a header whose name stands for nothing, of at most 1,000 glyphs, a new definition; the bare name of a
-- function that function; and so does its name with a bracket behind it, which is then done
pub data Opens (w : PlainWorkspace) (text : List ℕ) (opening : Edited) : Type 0 where
  new_header : (header : PlainHeader) → HasNoBracket text → header_of text ≡ Some header → global_in w header.name ≡ Nothing → length text ≤ 1000 → opening ≡ quietly (new_editor text header) → Opens w text opening
  bare_name : (header : PlainHeader) (function : PlainFunction) → HasNoBracket text → header_of text ≡ Some header → IsBare header → global_in w header.name ≡ Function function → opening ≡ quietly (editor_of function) →
      Opens w text opening
  name_and_bracket : (name rest : List ℕ) (function : PlainFunction) → HasBracket text name rest → global_in w name ≡ Function function → by_bracket (editor_of function) (bracket_in rest) ≡ Some opening → Opens w text opening

-- this text stands behind the ∇ that opens: up to a ∇ that closes, or all, where none closes
pub data IsOpeningText (rest text : List ℕ) (closes : Bool) : Type 0 where
  closing : closes ≡ true → IsBeforeClose rest text → IsOpeningText rest text closes
  staying : closes ≡ false → rest ≡ text → ((front : List ℕ) → ¬ IsBeforeClose rest front) → IsOpeningText rest text closes

-- a line opens this: its first glyph other than blanks is ∇, and what its text opens is closed where the line closes it
pub record IsOpened (w : PlainWorkspace) (line : List ℕ) (done : Edited) : Type 0 where
  pub rest : List ℕ
  pub text : List ℕ
  pub closes : Bool
  pub opening : Edited
  pub behind : IsBehind del line rest
  pub text_of : IsOpeningText rest text closes
  pub opens : Opens w text opening
  pub same : done ≡ then_closed closes opening

-- the bare name of a function stands between a ∇ that opens and one that closes
pub record IsShut (w : PlainWorkspace) (line : List ℕ) (function : PlainFunction) : Type 0 where
  pub rest : List ℕ
  pub text : List ℕ
  pub header : PlainHeader
  pub behind : IsBehind del line rest
  pub before : IsBeforeClose rest text
  pub no_bracket : HasNoBracket text
  pub reads : header_of text ≡ Some header
  pub bare : IsBare header
  pub named : global_in w header.name ≡ Function function

-- a function that is opened and closed at once
abbrev pub shut : PlainFunction → Edited
shut function = record { editor = record (editor_of function) { closed = true }; shown = [] }
