-- What is begun after the line itself, where it stands, and what follows it.
use Rattle.std.specs.Prelude.{◌+◌, ℕ, zero, suc, ℤ, pos, negsuc, List, Option, None, slice_get}
use Rattle.apl_workspace.specs.Function.{PlainFunction}
use Rattle.apl_meaning.specs.State.{State, Outcome, refuses}
use Rattle.apl_arrays.specs.declared.report.Report.TheVariants.{Interrupt}

-- where a statement stands: it is the line as read, a line of a function, or a text that either of them executes
pub data Place : Type 0 where
  immediate : Place
  in_function : Place
  text_of_input : Place
  text_in_function : Place

-- which line of a function follows: the next one, or the one that a branch names
pub data Next : Type 0 where
  goes_on : Next
  goes_to : ℤ → Next

-- what is begun by a statement: the lines of a function, from one on, or a text at a place
pub data Task : Type 0 where
  lines_from : PlainFunction → ℕ → Task
  text_at : Place → List ℕ → Task

-- what comes of tasks
abbrev pub Run : Type 0
Run = Task → State → Outcome Next

-- the number of the line that follows a line; no line has the number 0
abbrev pub following : ℕ → Next → ℕ
following number goes_on = number + 1
following number (goes_to (pos n)) = n
following number (goes_to (negsuc n)) = 0

-- a line by its number; the first has number 1
abbrev pub line_numbered : List (List ℕ) → ℕ → Option (List ℕ)
line_numbered lines zero = None
line_numbered lines (suc before) = slice_get lines before

-- a statement is begun, and one less may be begun from then on; where none may, that is INTERRUPT
abbrev pub begun_by : {T : Type 0} → ℕ → (State → Outcome T) → State → Outcome T
begun_by zero next s = refuses Interrupt s
begun_by (suc left) next s = next (record s { statements = left })

-- a statement is begun
abbrev pub begun : {T : Type 0} → (State → Outcome T) → State → Outcome T
begun next s = begun_by s.statements next s
