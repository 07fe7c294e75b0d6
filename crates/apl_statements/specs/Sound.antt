-- What holds of every interpreter, and of its flows.
use Rattle.std.specs.Prelude.{◌≡◌, ◌≢◌, ◌≤◌, ℕ, true, false, List, [], ◌∷◌, Option, Some, None, All, IfSome, is_some, length, reverse, slice_get, take}
use Rattle.std.specs.Arc.{arc_value}
use Rattle.apl_workspace.specs.Meaning.{is_function_meaning}
use Rattle.apl_workspace.specs.Workspace.{PlainWorkspace, empty_workspace, global_in, innermost, without_frame}
use Rattle.apl_values.specs.declared.reading.LineReading.{LineReading}
use Rattle.apl_values.specs.Parts.{IsReadFrom, IsLineReading}
use Rattle.apl_values.specs.Pending.{IsPending}
use Rattle.apl_values.specs.Values.{IsStackValue}
use Rattle.apl_statements.specs.declared.waiting.Waiting.{Waiting}
use Rattle.apl_statements.specs.declared.evaluation.Evaluation.{Evaluation}
use Rattle.apl_statements.specs.declared.flow.Flow.{Flow}
use Rattle.apl_statements.specs.declared.flow.Flow.TheVariants as flow
use Rattle.apl_statements.specs.declared.flow.Pause.{Pause}
use Rattle.apl_statements.specs.declared.interpreter.Interpreter.TheInside.{Inside}
use Rattle.apl_statements.specs.Evaluating.{function_by, stack_of}
use Rattle.apl_statements.specs.Interpreter.{PlainInterpreter}
use Rattle.apl_statements.specs.Moves.{flow_of}
use Rattle.apl_statements.specs.Holding.{parts_of}

-- a statement under evaluation on a workspace: its line was read, the next part is one of them or behind the last, and each value is an array
pub record IsEvaluation (w : PlainWorkspace) (e : Evaluation) : Type 0 where
  pub reading : IsLineReading (arc_value e.reading)
  pub at : e.at ≤ length (parts_of e)
  pub values : All (IsStackValue w (parts_of e)) e.values.items

-- a statement that waits for what a part gives: besides, no value is wanting
pub record IsCaller (w : PlainWorkspace) (e : Evaluation) : Type 0 where
  pub evaluation : IsEvaluation w e
  pub there : e.is_wanting ≡ false

-- what is kept of this line of a function, if anything, is how it was read in the function's frame
abbrev pub IsKeptLine : PlainWorkspace → Option (List ℕ) → LineReading → Type 0
IsKeptLine w None reading = ⊥
IsKeptLine w (Some line) reading = IsReadFrom w line reading

-- what is kept of the lines of a function, the first with number 1
abbrev pub AreKeptLines : PlainWorkspace → List (List ℕ) → Waiting → Type 0
AreKeptLines w lines waiting = (at : ℕ) → IfSome (slice_get waiting.readings.items at) (λ kept. IfSome kept (λ reading. IsKeptLine w (slice_get lines at) (arc_value reading)))

-- a function whose frame is the innermost of a workspace: its name is a function, its line is one of its lines or none yet, its frame has the name of its result, the values of its caller are none that names have, and its kept lines are as they were read
pub record IsFunctionUnderWay (w : PlainWorkspace) (waiting : Waiting) : Type 0 where
  pub frame : w.frames ≢ []
  pub function : is_function_meaning (global_in w waiting.name) ≡ true
  pub number : waiting.number ≤ length (function_by (global_in w waiting.name)).lines
  pub caller : IsCaller empty_workspace waiting.caller
  pub result : IfSome (function_by (global_in w waiting.name)).header.result (λ name. is_some (innermost (take 1 w.frames) name) ≡ true)
  pub lines : AreKeptLines w (function_by (global_in w waiting.name)).lines waiting

-- functions under way, the innermost first: as many as there are frames, each in its own
abbrev pub AreUnderWay : PlainWorkspace → List Waiting → Type 0
AreUnderWay w [] = w.frames ≡ []
AreUnderWay w (waiting ∷ others) = IsFunctionUnderWay w waiting × AreUnderWay (without_frame w) others

-- what holds of every interpreter: of the functions under way, with the innermost last
abbrev pub IsInterpreter : Inside → Type 0
IsInterpreter m = AreUnderWay m.workspace (reverse m.callers.items)

-- an interpreter as plain data
abbrev pub plain_interpreter : Inside → PlainInterpreter
plain_interpreter m = record {
  workspace = m.workspace;
  output = m.output.items;
  statements = m.statements;
  input = m.input.items;
  stack = stack_of m.workspace m.input.items (reverse m.callers.items);
}

-- what holds of each flow
abbrev pub IsFlow : PlainInterpreter → Flow → Type 0
IsFlow m (flow.Evaluates e) = IsEvaluation m.workspace e
IsFlow m (flow.Begins e) = IsEvaluation m.workspace e
IsFlow m (flow.Leads next) = Unit {0}
IsFlow m (flow.Opens for_this e) = IsPending m.workspace for_this.value × IsCaller m.workspace e
IsFlow m flow.Ends = (m.stack ≡ []) × (m.workspace.frames ≡ [])

-- what holds of each pause
abbrev pub IsPause : PlainInterpreter → Pause → Type 0
IsPause m paused = IsFlow m (flow_of paused)
