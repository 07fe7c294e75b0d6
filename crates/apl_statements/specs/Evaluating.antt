-- Statements and functions under way as plain data.
use Rattle.std.specs.Prelude.{ℕ, Bool, true, false, List, [], ◌∷◌, Option, Some, None, drop, nat_lt, unwrap_or}
use Rattle.std.specs.List.{find}
use Rattle.apl_arrays.specs.Array.{PlainArray}
use Rattle.apl_workspace.specs.Function.{PlainFunction}
use Rattle.apl_workspace.specs.Workspace.{PlainWorkspace, empty_workspace, global_in}
use Rattle.apl_workspace.specs.declared.args.Args.{Args}
use Rattle.apl_workspace.specs.declared.meaning.Meaning.{Meaning}
use Rattle.apl_workspace.specs.declared.meaning.Meaning.TheVariants as meaning
use Rattle.line_trees.specs.Trees.{Statement, nothing, branch, whole, execute}
use Rattle.apl_meaning.specs.Calls.{takes}
use Rattle.apl_meaning.specs.Statements.{is_silent}
use Rattle.apl_meaning.specs.Tasks as task
use Rattle.apl_meaning.specs.Tasks.{line_numbered}
use Rattle.apl_meaning.specs.Nodes.{Values, ready, wanting}
use Rattle.apl_meaning.specs.Printing.{function_line_shown, input_shown}
use Rattle.apl_values.specs.Parts.{plain_parts}
use Rattle.apl_values.specs.Places.{plain_place}
use Rattle.apl_statements.specs.declared.waiting.Waiting.{Waiting}
use Rattle.apl_statements.specs.declared.evaluation.Evaluation.{Evaluation}
use Rattle.apl_statements.specs.declared.evaluation.Purpose.{Purpose}
use Rattle.apl_statements.specs.declared.evaluation.Purpose.TheVariants as purpose
use Rattle.apl_statements.specs.declared.flow.Next.{Next}
use Rattle.apl_statements.specs.declared.flow.Next.TheVariants as next
use Rattle.apl_statements.specs.Stack.{PlainPurpose, branches, prints, executes, PlainEvaluation, PlainCaller, PlainWaiting}
use Rattle.apl_statements.specs.Holding.{stack_values, parts_of}

-- which line follows
abbrev pub plain_next : Next → task.Next
plain_next next.GoesOn = task.goes_on
plain_next (next.GoesTo line) = task.goes_to line

-- what becomes of the value of a statement
abbrev pub plain_purpose : Purpose → PlainPurpose
plain_purpose purpose.Branches = branches
plain_purpose (purpose.Prints silent) = prints silent
plain_purpose purpose.Executes = executes

-- values of which the newest is wanting, or none is
abbrev pub values_where : Bool → List PlainArray → Values
values_where true values = wanting values
values_where false values = ready values

-- a statement under evaluation: the nodes from its next part on, and its values, the newest first
abbrev pub evaluation_of : PlainWorkspace → Evaluation → PlainEvaluation
evaluation_of w e = record {
  place = plain_place e.place;
  purpose = plain_purpose e.purpose;
  nodes = drop e.at (plain_parts (parts_of e));
  values = values_where e.is_wanting (stack_values w e);
}

-- a statement that waits for what a part gives, and whose reports have this second line
abbrev pub caller_of : PlainWorkspace → List ℕ → Evaluation → PlainCaller
caller_of w shown e = record {
  place = plain_place e.place;
  purpose = plain_purpose e.purpose;
  nodes = drop e.at (plain_parts (parts_of e));
  values = stack_values w e;
  here = shown;
}

-- no function, in the place of one that is not there; none is under way
abbrev pub no_function : PlainFunction
no_function = record { text = []; header = record { name = []; left = None; right = None; result = None; locals = [] }; lines = [] }

-- the function that a name is which stands for this, if it is one
abbrev pub function_in : Meaning → Option PlainFunction
function_in meaning.Nothing = None
function_in (meaning.Value value) = None
function_in (meaning.Function function) = Some function
function_in (meaning.Label line) = None
function_in (meaning.Shared copy) = None

-- the function that a name is which stands for this
abbrev pub function_by : Meaning → PlainFunction
function_by m = unwrap_or (function_in m) no_function

-- the second line of a report that arises in a function, at this line of it where that is one; one that was just entered has none, and then it is its caller's
abbrev pub shown_at : PlainFunction → ℕ → Option (List ℕ) → List ℕ → List ℕ
shown_at function number None under = under
shown_at function number (Some line) under = function_line_shown function.header.name number line

-- the second line of a report that arises over what waits: that of the innermost function, else the line as read
abbrev pub here_of : List ℕ → List PlainWaiting → List ℕ
here_of input [] = input_shown input
here_of input (w ∷ ws) = shown_at w.function w.number (line_numbered w.function.lines w.number) (here_of input ws)

-- a function under way over what waits. The caller's values are none that names have
abbrev pub waiting_of : PlainWorkspace → List ℕ → Waiting → List PlainWaiting → PlainWaiting
waiting_of w input waiting under = record {
  function = function_by (global_in w waiting.name);
  number = waiting.number;
  caller = caller_of empty_workspace (here_of input under) waiting.caller;
}

-- what waits, the innermost first
abbrev pub stack_of : PlainWorkspace → List ℕ → List Waiting → List PlainWaiting
stack_of w input [] = []
stack_of w input (waiting ∷ others) = waiting_of w input waiting (stack_of w input others) ∷ stack_of w input others

-- what becomes of the value of a statement; one that is empty has none
abbrev pub purpose_in : Statement → Option PlainPurpose
purpose_in nothing = None
purpose_in (branch e) = Some branches
purpose_in (whole e) = Some (prints (is_silent e))
purpose_in (execute e) = Some executes

-- the innermost function under way
abbrev pub innermost_function : List PlainWaiting → PlainFunction
innermost_function [] = no_function
innermost_function (w ∷ ws) = w.function

-- a line of the innermost function by its number
abbrev pub line_of_innermost : List PlainWaiting → ℕ → Option (List ℕ)
line_of_innermost ws number = line_numbered (innermost_function ws).lines number

-- a name that stands for this is a function of these arguments
abbrev pub takes_by : Meaning → Args → Bool
takes_by meaning.Nothing args = false
takes_by (meaning.Value value) args = false
takes_by (meaning.Function function) args = takes function.header args
takes_by (meaning.Label line) args = false
takes_by (meaning.Shared copy) args = false

-- the innermost function of which a line was begun
abbrev pub innermost_begun : List Waiting → Option Waiting
innermost_begun callers = find (λ waiting. nat_lt 0 waiting.number) callers

-- a line of a function, as a report shows it
abbrev pub line_shown_of : PlainFunction → ℕ → List ℕ
line_shown_of function number = function_line_shown function.header.name number (unwrap_or (line_numbered function.lines number) [])

-- the line of a function under way, as a report shows it
abbrev pub waiting_shown : PlainWorkspace → Waiting → List ℕ
waiting_shown w waiting = line_shown_of (function_by (global_in w waiting.name)) waiting.number
