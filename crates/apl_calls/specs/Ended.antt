-- An interpreter whose line was ended by a report, and what is looked at before a statement or a line needs memory.
use Rattle.std.specs.Prelude.{◌++◌, List, [], ◌∷◌, Option, None, ℕ}
use Rattle.apl_arrays.specs.declared.report.Report.{Report}
use Rattle.apl_execute.specs.Text.{text_of}
use Rattle.apl_meaning.specs.Expressions.{Found, needed_value}
use Rattle.apl_meaning.specs.Printing.{report_lines}
use Rattle.apl_meaning.specs.State.{State, Effect, gives, and_then, outcome_of}
use Rattle.apl_meaning.specs.Statements.{branch_to}
use Rattle.apl_meaning.specs.Tasks.{Next, following, line_numbered}
use Rattle.apl_statements.specs.Interpreter.{PlainInterpreter, here}
use Rattle.apl_statements.specs.Stack.{PlainPurpose, PlainWaiting, branches, prints, executes}

-- a line was ended by a report: its two lines are printed, and all functions under way are left
abbrev pub ended_by : Report → PlainInterpreter → PlainInterpreter
ended_by report m = record m { workspace = record m.workspace { frames = [] }; output = m.output ++ report_lines report (here m); stack = [] }

-- what is looked at before what becomes of a value needs memory: a branch where it leads to, and a text whether it is one
abbrev pub looked_at : PlainPurpose → Found → State → Effect
looked_at branches found s = and_then (needed_value found s) (λ target t. and_then (outcome_of (branch_to target) t) (λ _ u. gives tt u))
looked_at (prints silent) found s = gives tt s
looked_at executes found s = and_then (needed_value found s) (λ v t. and_then (outcome_of (text_of v) t) (λ _ u. gives tt u))

-- the line that follows in the innermost function, if one does
abbrev pub line_behind : List PlainWaiting → Next → Option (List ℕ)
line_behind [] next = None
line_behind (w ∷ ws) next = line_numbered w.function.lines (following w.number next)
