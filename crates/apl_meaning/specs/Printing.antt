-- What is printed, and the two lines of a report.
use Rattle.std.specs.Prelude.{◌+◌, ◌++◌, ℕ, List, [], ◌∷◌, decimal, length, nat_le, replicate, if◌then◌else◌}
use Rattle.apl_arrays.specs.Array.{PlainArray}
use Rattle.apl_arrays.specs.Glyph.{blank, left_bracket, right_bracket}
use Rattle.apl_arrays.specs.Report.{report_text}
use Rattle.apl_arrays.specs.declared.report.Report.{Report}
use Rattle.apl_arrays.specs.declared.report.Report.TheVariants.{Interrupt}
use Rattle.apl_display.specs.Display.{display_lines}
use Rattle.apl_workspace.specs.Limits.{most_printed}
use Rattle.apl_workspace.specs.Workspace.{with_printed}
use Rattle.apl_meaning.specs.State.{State, gives, refuses, Effect, and_then}

-- a line is printed, and its glyphs are counted; where they would pass the limit, it is not, and that is INTERRUPT
abbrev pub line_printed : List ℕ → State → Effect
line_printed line s =
    if nat_le (s.workspace.printed + length line) most_printed
    then gives tt (record s { printed = s.printed ++ line ∷ []; workspace = with_printed s.workspace (length line) })
    else refuses Interrupt s

-- lines are printed, one after another
abbrev pub lines_printed : List (List ℕ) → State → Effect
lines_printed [] s = gives tt s
lines_printed (line ∷ lines) s = and_then (line_printed line s) (λ _ s. lines_printed lines s)

-- a value is printed by its display lines
abbrev pub value_printed : PlainArray → State → Effect
value_printed value s = lines_printed (display_lines value) s

-- the line as read, as a report shows it
abbrev pub input_shown : List ℕ → List ℕ
input_shown line = replicate 6 blank ++ line

-- a line of a function, as a report shows it
abbrev pub function_line_shown : List ℕ → ℕ → List ℕ → List ℕ
function_line_shown name number line = name ++ left_bracket ∷ (decimal number ++ right_bracket ∷ blank ∷ line)

-- the lines of a report, which are not counted
abbrev pub report_lines : Report → List ℕ → List (List ℕ)
report_lines report shown = report_text report ∷ shown ∷ []
