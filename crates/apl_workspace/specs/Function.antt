-- Functions as plain data.
use Rattle.std.specs.Prelude.{◌≡◌, ◌≤◌, ◌+◌, ◌&&◌, ℕ, Bool, List, Option, Some, None, All, length, min, nat_le, sum_by, if◌then◌else◌}
use Rattle.std.specs.List.{list_all}
use Rattle.std.specs.Option.{option_map}
use Rattle.apl_arrays.specs.Limits.{most_line_glyphs}
use Rattle.apl_workspace.specs.Header.{PlainHeader, header_of}
use Rattle.apl_workspace.specs.Label.{AreLabels}
use Rattle.apl_workspace.specs.Limits.{most_function_lines, most_weight}
use Rattle.apl_workspace.specs.declared.label.LabelledLine.{LabelledLine}

-- a function: its header as it was entered, what that header is, and its lines
pub record PlainFunction : Type 0 where
  pub text : List ℕ
  pub header : PlainHeader
  pub lines : List (List ℕ)

-- the header is that of the text, and text and lines are within their limits
pub record IsFunction (function : PlainFunction) : Type 0 where
  pub header : header_of function.text ≡ Some function.header
  pub text : length function.text ≤ most_line_glyphs
  pub count : length function.lines ≤ most_function_lines
  pub lines : All (λ line. length line ≤ most_line_glyphs) function.lines

-- a header or a line within its limit
abbrev pub is_short : List ℕ → Bool
is_short line = nat_le (length line) most_line_glyphs

-- a header and lines within their limits
abbrev pub keeps_limits : List ℕ → List (List ℕ) → Bool
keeps_limits text lines = is_short text && nat_le (length lines) most_function_lines && list_all is_short lines

-- the function of a header that was read
abbrev pub function_with : List ℕ → List (List ℕ) → PlainHeader → PlainFunction
function_with text lines header = record { text = text; header = header; lines = lines }

-- the function of a header as it is entered and of lines, where there is one
abbrev pub function_of : List ℕ → List (List ℕ) → Option PlainFunction
function_of text lines = if keeps_limits text lines then option_map (function_with text lines) (header_of text) else None

-- one for each line and for each of its glyphs
abbrev pub lines_weight : List (List ℕ) → ℕ
lines_weight lines = sum_by (λ line. length line + 1) lines

-- what a function weighs: one, the glyphs of its header and of its lines, and one for each line
abbrev pub function_weight : PlainFunction → ℕ
function_weight function = 1 + length function.text + lines_weight function.lines

-- what a function keeps beside its text, its header and its lines: its labels, and its weight or one more than a workspace may weigh
pub record KeepsLabelsAndWeight (function : PlainFunction) (labels : List LabelledLine) (weight : ℕ) : Type 0 where
  pub first : AreLabels function.lines labels
  pub counted : weight ≡ min (function_weight function) (most_weight + 1)
