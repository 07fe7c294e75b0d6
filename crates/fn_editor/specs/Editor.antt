-- An open definition as plain data, and what enters, leaves and is shown of its lines.
use Rattle.std.specs.Prelude.{◌≡◌, ◌≤◌, ◌+◌, ◌++◌, ℕ, Bool, false, List, [], ◌∷◌, Some, All, length, is_some, map, replicate}
use Rattle.std.specs.BTreeMap.{insert_entry, is_at}
use Rattle.std.specs.Map.{lookup, remove_entry, values_of}
use Rattle.std.specs.Ordering.{nat_cmp}
use Rattle.apl_arrays.specs.Glyph.{blank, del}
use Rattle.apl_arrays.specs.Limits.{most_line_glyphs}
use Rattle.apl_workspace.specs.Function.{PlainFunction}
use Rattle.apl_workspace.specs.Header.{PlainHeader, header_of}
use Rattle.apl_workspace.specs.Limits.{most_function_lines}
use Rattle.fn_editor.specs.Number.{line_number}
use Rattle.fn_editor.specs.Prompt.{prompt_text}

-- lines with their numbers, which ascend
abbrev pub Lines : Type 0
Lines = List (ℕ × List ℕ)

-- an open definition: the header as it was entered, what that header is, the lines with their numbers, the current number, and whether the last line closed it
pub record PlainEditor : Type 0 where
  pub text : List ℕ
  pub header : PlainHeader
  pub lines : Lines
  pub number : ℕ
  pub closed : Bool

-- some line has the number
abbrev pub has_line : Lines → ℕ → Bool
has_line lines number = is_some (lookup (is_at (nat_cmp number)) lines)

-- the lines with this text at a number, in place of one that is there
abbrev pub with_line_at : Lines → ℕ → List ℕ → Lines
with_line_at lines number text = insert_entry nat_cmp lines number text

-- the lines without the one at a number
abbrev pub without_line : Lines → ℕ → Lines
without_line lines number = remove_entry (is_at (nat_cmp number)) lines

-- the number of the last line, or this one where there is none
abbrev pub last_number : ℕ → Lines → ℕ
last_number number [] = number
last_number number (line ∷ lines) = last_number line.0 lines

-- lines with whole numbers, from this one on
abbrev pub numbered : ℕ → List (List ℕ) → Lines
numbered whole [] = []
numbered whole (line ∷ lines) = (line_number whole 0, line) ∷ numbered (whole + 1) lines

-- a function's definition as it is opened: its lines have whole numbers, and the current number is the next
abbrev pub editor_of : PlainFunction → PlainEditor
editor_of function = record { text = function.text; header = function.header; lines = numbered 1 function.lines; number = line_number (length function.lines + 1) 0; closed = false }

-- what is defined at the close: the lines in their order, numbered from 1
abbrev pub defined_function : PlainEditor → PlainFunction
defined_function editor = record { text = editor.text; header = editor.header; lines = values_of editor.lines }

-- a line behind its prompt
abbrev pub shown_line : ℕ × List ℕ → List ℕ
shown_line line = prompt_text line.0 ++ line.1

-- four blanks and ∇
abbrev pub edge : List ℕ
edge = replicate 4 blank ++ del ∷ []

-- what is shown of a definition: the header behind its edge and a blank, the lines with their prompts, and the edge
-- again
abbrev pub shown_definition : PlainEditor → List (List ℕ)
shown_definition editor = (edge ++ blank ∷ editor.text) ∷ map shown_line editor.lines ++ edge ∷ []

-- what holds of every open definition: the header is that of its text, and text and lines are within their limits
pub record IsEditor (editor : PlainEditor) : Type 0 where
  pub header : header_of editor.text ≡ Some editor.header
  pub text : length editor.text ≤ most_line_glyphs
  pub count : length editor.lines ≤ most_function_lines
  pub lines : All (λ line. length line ≤ most_line_glyphs) (values_of editor.lines)
