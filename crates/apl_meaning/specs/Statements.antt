-- Statements by their forms: nothing, a branch, an expression whose value is printed, and a text that is executed.
use Rattle.std.specs.Prelude.{◌||◌, ◌&&◌, ℕ, ℤ, Bool, true, false, not, List, [], ◌∷◌, Some, None, Result, Ok, Err, is_some, length, nat_lt, if◌then◌else◌}
use Rattle.apl_arrays.specs.Array.{PlainArray, PlainItems, numbers, chars}
use Rattle.apl_arrays.specs.declared.report.Report.{Report}
use Rattle.apl_arrays.specs.declared.report.Report.TheVariants.{Domain, Rank, Syntax}
use Rattle.apl_execute.specs.Text.{text_of}
use Rattle.line_trees.specs.Trees.{Expr, constant, value, niladic, paren, indexed, monadic, monadic_along, dyadic, dyadic_along, assign, assign_at, Statement, nothing, branch, whole, execute, LineTree}
use Rattle.apl_meaning.specs.State.{State, Outcome, gives, refuses, Effect, and_then, outcome_of}
use Rattle.apl_meaning.specs.Tasks.{Place, immediate, in_function, text_of_input, text_in_function, Next, goes_on, goes_to, Run, text_at}
use Rattle.apl_meaning.specs.Expressions.{Found, evaluated, needed}
use Rattle.apl_meaning.specs.Printing.{value_printed}
use Rattle.apl_meaning.specs.Reading.{Read, read_with}

-- a label may stand before the statement: in a line of a function alone
abbrev pub may_be_labelled : Place → Bool
may_be_labelled immediate = false
may_be_labelled in_function = true
may_be_labelled text_of_input = false
may_be_labelled text_in_function = false

-- the statement may branch: in a line of a function, and in a text that such a line executes
abbrev pub may_branch : Place → Bool
may_branch immediate = false
may_branch in_function = true
may_branch text_of_input = false
may_branch text_in_function = true

-- where a text stands that a statement executes
abbrev pub place_of_text : Place → Place
place_of_text immediate = text_of_input
place_of_text in_function = text_in_function
place_of_text text_of_input = text_of_input
place_of_text text_in_function = text_in_function

-- the statement branches
abbrev pub is_branch : Statement → Bool
is_branch nothing = false
is_branch (branch e) = true
is_branch (whole e) = false
is_branch (execute e) = false

-- the line may not stand at the place
abbrev pub is_misplaced : Place → LineTree → Bool
is_misplaced place line = (is_some line.label && not (may_be_labelled place)) || (is_branch line.statement && not (may_branch place))

-- the statement begins with a target and an arrow, so that its value is not printed
abbrev pub is_silent : Expr → Bool
is_silent (constant items) = false
is_silent (value name) = false
is_silent (niladic name) = false
is_silent (paren e) = false
is_silent (indexed e subs) = false
is_silent (monadic f right) = false
is_silent (monadic_along f axis right) = false
is_silent (dyadic f left right) = false
is_silent (dyadic_along f left axis right) = false
is_silent (assign name right) = true
is_silent (assign_at name subs right) = true

-- a value is printed, unless the statement is silent or there is none
abbrev pub shown : Bool → Found → State → Effect
shown true found s = gives tt s
shown false None s = gives tt s
shown false (Some v) s = value_printed v s

-- where numbers lead: on where there are none, else to the line of the first
abbrev pub next_of : List ℤ → Next
next_of [] = goes_on
next_of (number ∷ others) = goes_to number

-- where a value leads: it is numbers of at most one axis
abbrev pub branch_by : ℕ → PlainItems → Result Next Report
branch_by rank (chars list) = Err Domain
branch_by rank (numbers list) = if nat_lt 1 rank then Err Rank else Ok (next_of list)

-- where a branch to a value leads
abbrev pub branch_to : PlainArray → Result Next Report
branch_to target = branch_by (length target.shape) target.items

-- a statement
abbrev pub statement_outcome : Run → Place → Statement → State → Outcome Next
statement_outcome run place nothing s = gives goes_on s
statement_outcome run place (branch e) s = and_then (needed (evaluated run e s)) (λ target s. outcome_of (branch_to target) s)
statement_outcome run place (whole e) s = and_then (evaluated run e s) (λ found s. and_then (shown (is_silent e) found s) (λ _ s. gives goes_on s))
statement_outcome run place (execute e) s =
    and_then (needed (evaluated run e s)) (λ v s.
    and_then (outcome_of (text_of v) s) (λ text s. run (text_at (place_of_text place) text) s))

-- a line by whether it may not stand at its place
abbrev pub line_by : Bool → Run → Place → LineTree → State → Outcome Next
line_by true run place line s = refuses Syntax s
line_by false run place line s = statement_outcome run place line.statement s

-- a line at a place, perhaps with a label
abbrev pub line_outcome : Run → Place → LineTree → State → Outcome Next
line_outcome run place line s = line_by (is_misplaced place line) run place line s

-- a line of which the tree, or the report in its place, was read
abbrev pub read_outcome : Run → Place → Read → State → Outcome Next
read_outcome run place (Ok line) s = line_outcome run place line s
read_outcome run place (Err report) s = refuses report s

-- a text at a place: it is read with the classes of this moment
abbrev pub text_outcome : Run → Place → List ℕ → State → Outcome Next
text_outcome run place text s = read_outcome run place (read_with s.workspace text) s
