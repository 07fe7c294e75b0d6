-- Worked lines: texts as they are written, and what comes of lines one after another.
use Rattle.std.specs.Prelude.{◌+◌, ◌++◌, ◌==◌, ℕ, pos, List, [], ◌∷◌, Option, Some, None, length, map, nat_lt, if◌then◌else◌}
use Rattle.std.specs.List.{position_or_len}
use Rattle.apl_arrays.specs.Array.{PlainArray, char_array, number_array, scalar}
use Rattle.apl_arrays.specs.Glyph.{scalars}
use Rattle.apl_workspace.specs.Function.{PlainFunction, function_of}
use Rattle.apl_workspace.specs.Workspace.{PlainWorkspace, empty_workspace, marked, with_global}
use Rattle.apl_workspace.specs.declared.meaning.Meaning.TheVariants as meaning
use Rattle.sv_events.specs.Answer.{PlainAnswer}
use Rattle.sv_events.specs.declared.event.Act.{Act}
use Rattle.apl_meaning.specs.State.{State, gives, refuses, asks, Effect}
use Rattle.apl_meaning.specs.Meaning.{mean_of_line}

-- the glyph of a character
abbrev pub glyph_of : ℕ → ℕ
glyph_of character = if nat_lt character 128 then character else 128 + position_or_len (λ other. other == character) scalars

-- the glyphs of a text
abbrev pub glyphs : List ℕ → List ℕ
glyphs text = map glyph_of text

-- what came of lines: the workspace, what was printed, the acts that were asked and answered, the answers left, how many applications were counted, and the act that waits, if one does
pub record LinesAccount : Type 0 where
  pub workspace : PlainWorkspace
  pub printed : List (List ℕ)
  pub asked : List Act
  pub answers : List PlainAnswer
  pub applications : ℕ
  pub waits : Option Act

-- nothing came yet
abbrev pub account_on : PlainWorkspace → List PlainAnswer → LinesAccount
account_on w answers = record { workspace = w; printed = []; asked = []; answers = answers; applications = 0; waits = None }

-- one line more, which came so far
abbrev pub account_with : LinesAccount → State → Option Act → LinesAccount
account_with account s waits = record {
  workspace = s.workspace;
  printed = account.printed ++ s.printed;
  asked = account.asked ++ s.asked;
  answers = s.answers;
  applications = account.applications + s.applications;
  waits = waits;
}

-- one line more, by how it ended
abbrev pub account_by : LinesAccount → Effect → LinesAccount
account_by account (gives nothing s) = account_with account s None
account_by account (refuses report s) = account_with account s None
account_by account (asks act s) = account_with account s (Some act)

-- how many statements a worked line may begin
abbrev pub worked_statements : ℕ
worked_statements = 40

-- a line more, unless an act waits
abbrev pub line_account : Option Act → List ℕ → LinesAccount → LinesAccount
line_account (Some act) line account = account
line_account None line account = account_by account (mean_of_line line account.workspace account.answers worked_statements)

-- what comes of lines
abbrev pub lines_account : List (List ℕ) → LinesAccount → LinesAccount
lines_account [] account = account
lines_account (line ∷ lines) account = lines_account lines (line_account account.waits (glyphs line) account)

-- the vector of characters
abbrev pub word : List ℕ → PlainArray
word text = char_array (length text ∷ []) text

-- what comes of lines on a workspace, with these answers
abbrev pub account_of : PlainWorkspace → List (List ℕ) → List PlainAnswer → LinesAccount
account_of w lines answers = lines_account lines (account_on w answers)

-- what lines print on a workspace, with these answers
abbrev pub printed_on : PlainWorkspace → List (List ℕ) → List PlainAnswer → List (List ℕ)
printed_on w lines answers = (account_of w lines answers).printed

-- the acts that lines ask on a workspace, with these answers, without the one that waits
abbrev pub asked_on : PlainWorkspace → List (List ℕ) → List PlainAnswer → List Act
asked_on w lines answers = (account_of w lines answers).asked

-- how many applications lines count
abbrev pub counted_on : PlainWorkspace → List (List ℕ) → List PlainAnswer → ℕ
counted_on w lines answers = (account_of w lines answers).applications

-- what lines print on an empty workspace
abbrev pub printed_by : List (List ℕ) → List (List ℕ)
printed_by lines = printed_on empty_workspace lines []

-- a workspace with a function, where there is one
abbrev pub with_function : Option PlainFunction → PlainWorkspace → PlainWorkspace
with_function None w = w
with_function (Some function) w = with_global w function.header.name (meaning.Function function)

-- a workspace with the function of this header and these lines
abbrev pub defining : List ℕ → List (List ℕ) → PlainWorkspace → PlainWorkspace
defining text lines w = with_function (function_of (glyphs text) (map glyphs lines)) w

-- a workspace with a name that is shared, and its own copy
abbrev pub sharing_workspace : List ℕ → Option PlainArray → PlainWorkspace → PlainWorkspace
sharing_workspace name copy w = marked w (record { local = name; surrogate = name; to = 1002 }) copy

-- the scalar of a number
abbrev pub number_value : ℕ → PlainArray
number_value n = scalar (pos n)

-- the vector of numbers
abbrev pub vector : List ℕ → PlainArray
vector list = number_array (length list ∷ []) (map (λ n. pos n) list)

-- the texts, as glyphs
abbrev pub texts : List (List ℕ) → List (List ℕ)
texts lines = map glyphs lines

-- an empty workspace in which these names are shared, without values
abbrev pub sharing_all : List (List ℕ) → PlainWorkspace
sharing_all [] = empty_workspace
sharing_all (name ∷ names) = sharing_workspace name None (sharing_all names)
