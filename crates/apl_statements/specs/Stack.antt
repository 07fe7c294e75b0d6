-- A stack as plain data: the statement under evaluation and what waits under it; and what is still to come of it.
use Rattle.std.specs.Prelude.{ℕ, Bool, List, [], ◌∷◌, Option, Some, None}
use Rattle.apl_arrays.specs.Array.{PlainArray}
use Rattle.apl_execute.specs.Text.{text_of}
use Rattle.apl_workspace.specs.Function.{PlainFunction}
use Rattle.line_trees.specs.Nodes.{PlainNode}
use Rattle.line_trees.specs.Trees.{Expr, placed}
use Rattle.apl_meaning.specs.State.{State, Outcome, gives, and_then, outcome_of}
use Rattle.apl_meaning.specs.Tasks.{Next, goes_on, Place, lines_from, text_at, following}
use Rattle.apl_meaning.specs.Calls.{leaving}
use Rattle.apl_meaning.specs.Expressions.{Found, needed_value}
use Rattle.apl_meaning.specs.Nodes.{Values, ready, with_found, after_nodes, assign_step, found_in, items_step, popped}
use Rattle.apl_meaning.specs.Statements.{branch_to, place_of_text, shown}
use Rattle.apl_meaning.specs.Meaning.{ran}

-- what becomes of the value of a statement: it leads to a line, it is printed unless the statement is silent, or it is executed
pub data PlainPurpose : Type 0 where
  branches : PlainPurpose
  prints : Bool → PlainPurpose
  executes : PlainPurpose

-- a statement under evaluation: its place, what becomes of its value, the nodes that are left, and the values that no node has taken yet
pub record PlainEvaluation : Type 0 where
  pub place : Place
  pub purpose : PlainPurpose
  pub nodes : List PlainNode
  pub values : Values

-- a statement that called a function: as an evaluation, with the values that the call left, and with the second line of its reports
pub record PlainCaller : Type 0 where
  pub place : Place
  pub purpose : PlainPurpose
  pub nodes : List PlainNode
  pub values : List PlainArray
  pub here : List ℕ

-- a function under way: the number of its line under evaluation, and the statement that called it
pub record PlainWaiting : Type 0 where
  pub function : PlainFunction
  pub number : ℕ
  pub caller : PlainCaller

-- a caller that got this goes on
abbrev pub resumed : Found → PlainCaller → PlainEvaluation
resumed found caller = record { place = caller.place; purpose = caller.purpose; nodes = caller.nodes; values = with_found found caller.values }

-- a statement calls a function: these nodes and values are left, and its reports have this second line
abbrev pub calling : PlainEvaluation → List PlainNode → List PlainArray → List ℕ → PlainCaller
calling e nodes values here = record { place = e.place; purpose = e.purpose; nodes = nodes; values = values; here = here }

-- the next nodes, and the values after a step
abbrev pub after_step : PlainEvaluation → List PlainNode → Values → PlainEvaluation
after_step e nodes values = record { place = e.place; purpose = e.purpose; nodes = nodes; values = values }

-- an expression under evaluation, from its first node on
abbrev pub begun_at : Place → PlainPurpose → Expr → PlainEvaluation
begun_at place purpose e = record { place = place; purpose = purpose; nodes = (placed [] e).0; values = ready [] }

-- a function under way, at one of its lines
abbrev pub at_line : PlainFunction → ℕ → PlainCaller → PlainWaiting
at_line function number caller = record { function = function; number = number; caller = caller }

-- what becomes of a value
abbrev pub put_to : PlainPurpose → Place → Found → State → Outcome Next
put_to branches place found s = and_then (needed_value found s) (λ target s. outcome_of (branch_to target) s)
put_to (prints silent) place found s = and_then (shown silent found s) (λ _ s. gives goes_on s)
put_to executes place found s = and_then (needed_value found s) (λ v s. and_then (outcome_of (text_of v) s) (λ text s. ran (text_at (place_of_text place) text) s))

-- what is still to come of a statement: its nodes, and what becomes of its value
abbrev pub rest_of_statement : PlainEvaluation → State → Outcome Next
rest_of_statement e s = and_then (after_nodes ran e.nodes e.values s) (λ values t. put_to e.purpose e.place (found_in values) t)

-- what is still to come under a statement that led there: the lines that follow, the result for the caller, the rest of the caller, and what is under it
abbrev pub behind : List PlainWaiting → Next → State → Outcome Next
behind [] next s = gives next s
behind (w ∷ ws) next s =
    and_then (ran (lines_from w.function (following w.number next)) s) (λ _ t.
    and_then (leaving w.function w.caller.here t) (λ found t.
    and_then (rest_of_statement (resumed found w.caller) t) (λ next t. behind ws next t)))

-- what is still to come of a stack
abbrev pub onward : PlainEvaluation → List PlainWaiting → State → Outcome Next
onward e ws s = and_then (rest_of_statement e s) (λ next t. behind ws next t)

-- what is still to come of a function that was entered, from one of its lines on
abbrev pub onward_lines : PlainFunction → ℕ → PlainCaller → List PlainWaiting → State → Outcome Next
onward_lines function number caller ws s =
    and_then (ran (lines_from function number) s) (λ _ t.
    and_then (leaving function caller.here t) (λ found t. onward (resumed found caller) ws t))

-- what a part gives, and then the statement that asked for it, over what waits
abbrev pub carried_on : Outcome Found → PlainCaller → List PlainWaiting → Outcome Next
carried_on found caller ws = and_then found (λ found t. onward (resumed found caller) ws t)

-- what is still to come where a line of the innermost function is next
abbrev pub from_line : List PlainWaiting → ℕ → State → Outcome Next
from_line [] number s = gives goes_on s
from_line (w ∷ ws) number s = onward_lines w.function number w.caller ws s

-- what is still to come where the innermost function is left
abbrev pub from_end : List PlainWaiting → State → Outcome Next
from_end [] s = gives goes_on s
from_end (w ∷ ws) s = carried_on (leaving w.function w.caller.here s) w.caller ws

-- the step of an assignment to a name, or to its items where places are there
abbrev pub assignment_step : List ℕ → Option (List (Option ℕ)) → List PlainArray → State → Outcome Values
assignment_step name None values s = assign_step name values s
assignment_step name (Some places) values s = items_step name (popped places values).subs (popped places values).values s
