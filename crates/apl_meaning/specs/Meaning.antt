-- The meaning of a statement: the line, and the functions and texts that are begun under it.
use Rattle.std.specs.Prelude.{◌++◌, ℕ, zero, suc, List, [], Option, Some, None, Ok, Err}
use Rattle.apl_arrays.specs.declared.report.Report.TheVariants.{Interrupt}
use Rattle.apl_workspace.specs.Function.{PlainFunction}
use Rattle.apl_workspace.specs.Workspace.{PlainWorkspace}
use Rattle.line_trees.specs.Trees.{LineTree}
use Rattle.sv_events.specs.Answer.{PlainAnswer}
use Rattle.apl_meaning.specs.State.{State, Outcome, gives, refuses, asks, Effect, and_then}
use Rattle.apl_meaning.specs.Tasks.{Next, goes_on, immediate, in_function, lines_from, text_at, Run, begun, following, line_numbered}
use Rattle.apl_meaning.specs.Printing.{function_line_shown, input_shown, report_lines}
use Rattle.apl_meaning.specs.Reading.{Read, read_with}
use Rattle.apl_meaning.specs.Statements.{line_outcome, text_outcome}

-- how many statements one line that is read may begin
abbrev pub most_statements : ℕ
most_statements = 100000

-- a report that arises from now on shows this line
abbrev pub standing_at : List ℕ → State → State
standing_at shown s = record s { here = shown }

-- a line of a function, where there is one of this number, and then those that follow it
abbrev pub function_line : Run → PlainFunction → ℕ → Option (List ℕ) → State → Outcome Next
function_line run function number None s = gives goes_on s
function_line run function number (Some line) s =
    and_then (begun (λ s. text_outcome run in_function line s) (standing_at (function_line_shown function.header.name number line) s)) (λ next s.
    run (lines_from function (following number next)) s)

-- what comes of a task, where fewer than so many statements may be begun
unfoldable pub run_below : ℕ → Run
run_below zero task s = refuses Interrupt s
run_below (suc most) (lines_from function number) s = function_line (run_below most) function number (line_numbered function.lines number) s
run_below (suc most) (text_at place text) s = begun (λ s. text_outcome (run_below most) place text s) s

-- what comes of a task: no more statements can be begun than are left
abbrev pub ran : Run
ran task s = run_below (suc s.statements) task s

-- where a line begins, on a workspace, with answers, and with so many statements that may be begun
abbrev pub start_of : List ℕ → PlainWorkspace → List PlainAnswer → ℕ → State
start_of line w answers left = record { workspace = w; printed = []; asked = []; answers = answers; statements = left; applications = 0; here = input_shown line }

-- a report is printed, and all functions under way are left
abbrev pub ended_by_report : List (List ℕ) → State → State
ended_by_report lines s = record s { printed = s.printed ++ lines; workspace = record s.workspace { frames = [] } }

-- how a line ends: by a report, which is printed, or without one; or it asks an act
abbrev pub closed : Outcome Next → Effect
closed (gives next s) = gives tt s
closed (refuses report s) = refuses report (ended_by_report (report_lines report s.here) s)
closed (asks act s) = asks act s

-- the meaning of a line: its tree and its text, on a workspace, with these answers, where so many statements may be begun
abbrev pub mean : LineTree → List ℕ → PlainWorkspace → List PlainAnswer → ℕ → Effect
mean tree line w answers left = closed (begun (λ s. line_outcome (run_below left) immediate tree s) (start_of line w answers left))

-- the meaning of a line that was read, or the report in its place
abbrev pub mean_of_read : Read → List ℕ → PlainWorkspace → List PlainAnswer → ℕ → Effect
mean_of_read (Ok tree) line w answers left = mean tree line w answers left
mean_of_read (Err report) line w answers left = closed (refuses report (start_of line w answers left))

-- the meaning of a line as read
abbrev pub mean_of_line : List ℕ → PlainWorkspace → List PlainAnswer → ℕ → Effect
mean_of_line line w answers left = mean_of_read (read_with w line) line w answers left
