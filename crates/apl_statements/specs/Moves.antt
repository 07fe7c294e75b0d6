-- What a step owes: what is still to come before it is still to come behind it.
use Rattle.std.specs.Prelude.{◌≡◌, ◌<◌, ◌≤◌, ◌+◌, ℕ, Bool, true, false, List, Option, Some, None, Result, Ok, Err}
use Rattle.apl_arrays.specs.Array.{PlainArray}
use Rattle.apl_arrays.specs.declared.report.Fail.{Fail}
use Rattle.apl_arrays.specs.declared.report.Fail.TheVariants as fail
use Rattle.apl_arrays.specs.declared.report.Report.{Report}
use Rattle.apl_arrays.specs.declared.report.Report.TheVariants.{Interrupt}
use Rattle.apl_workspace.specs.Limits.{most_printed}
use Rattle.sv_events.specs.Answer.{PlainAnswer}
use Rattle.sv_events.specs.declared.event.Act.{Act}
use Rattle.apl_meaning.specs.State.{State, Outcome, Effect, gives, refuses, and_then}
use Rattle.apl_meaning.specs.Tasks.{Next, goes_on}
use Rattle.apl_meaning.specs.Expressions.{Found}
use Rattle.apl_meaning.specs.Nodes.{Values, found_in}
use Rattle.apl_meaning.specs.Meaning.{closed}
use Rattle.apl_values.specs.Places.{plain_place}
use Rattle.apl_values.specs.Pending.{act_asked_for, plain_act_purpose}
use Rattle.apl_statements.specs.declared.evaluation.Evaluation.{Evaluation}
use Rattle.apl_statements.specs.declared.flow.Flow.{Flow}
use Rattle.apl_statements.specs.declared.flow.Flow.TheVariants as flow
use Rattle.apl_statements.specs.declared.flow.Pause.{Pause}
use Rattle.apl_statements.specs.declared.flow.Pause.TheVariants as pause
use Rattle.apl_statements.specs.Evaluating.{caller_of, evaluation_of, plain_next}
use Rattle.apl_statements.specs.Interpreter.{PlainInterpreter, here, state_at}
use Rattle.apl_statements.specs.Stack.{PlainPurpose, behind, carried_on, onward, put_to}
use Rattle.apl_statements.specs.Holding.{stack_values}

-- what is still to come, wherever the evaluation has come to
abbrev pub Coming : Type 0
Coming = State → Outcome Next

-- between two interpreters so many applications were counted: whatever was asked, counted and taken before, and whatever answers follow, the line ends by what is still to come of the first as it does by what is still to come of the second
pub record Moves (m : PlainInterpreter) (coming : Coming) (counted : ℕ) (n : PlainInterpreter) (left : Coming) : Type 0 where
  pub same : (asked : List Act) (count : ℕ) (taken : List (List ℕ)) (further : List PlainAnswer) → closed (coming (state_at m asked count taken further)) ≡ closed (left (state_at n asked (count + counted) taken further))

-- what is still to come of a flow
abbrev pub flow_to_come : PlainInterpreter → Flow → Coming
flow_to_come m (flow.Evaluates e) s = onward (evaluation_of m.workspace e) m.stack s
flow_to_come m (flow.Begins e) s = onward (evaluation_of m.workspace e) m.stack s
flow_to_come m (flow.Leads next) s = behind m.stack (plain_next next) s
flow_to_come m (flow.Opens for_this e) s = carried_on (act_asked_for (plain_act_purpose for_this.value) s) (caller_of m.workspace (here m) e) m.stack
flow_to_come m flow.Ends s = gives goes_on s

-- a step comes to a flow, or to a report that ends the line, and changes nothing of what is to come; where memory ran out nothing is said
abbrev pub Comes : PlainInterpreter → Coming → ℕ → PlainInterpreter → Result Flow Fail → Type 0
Comes m coming counted n (Ok next) = Moves m coming counted n (flow_to_come n next)
Comes m coming counted n (Err (fail.Report report)) = Moves m coming counted n (λ s. refuses report s)
Comes m coming counted n (Err fail.WantOfMemory) = Unit {0}

-- the flow that pauses so
abbrev pub flow_of : Pause → Flow
flow_of pause.Ends = flow.Ends
flow_of (pause.Opens for_this e) = flow.Opens for_this e

-- a run comes to a pause, or to a report that ends the line; where memory ran out nothing is said
abbrev pub ComesToPause : PlainInterpreter → Coming → ℕ → PlainInterpreter → Result Pause Fail → Type 0
ComesToPause m coming counted n (Ok paused) = Moves m coming counted n (flow_to_come n (flow_of paused))
ComesToPause m coming counted n (Err (fail.Report report)) = Moves m coming counted n (λ s. refuses report s)
ComesToPause m coming counted n (Err fail.WantOfMemory) = Unit {0}

-- a part of an evaluation was done: its effect leads from where one interpreter is to where another is
pub record Does (m : PlainInterpreter) (part : State → Effect) (n : PlainInterpreter) : Type 0 where
  pub same : (asked : List Act) (count : ℕ) (taken : List (List ℕ)) (further : List PlainAnswer) → part (state_at m asked count taken further) ≡ gives tt (state_at n asked count taken further)

-- a part of an evaluation ends the line by this report
pub record Refuses (m : PlainInterpreter) (part : State → Effect) (report : Report) (n : PlainInterpreter) : Type 0 where
  pub same : (asked : List Act) (count : ℕ) (taken : List (List ℕ)) (further : List PlainAnswer) → part (state_at m asked count taken further) ≡ refuses report (state_at n asked count taken further)

-- a part of an evaluation was done, or ends the line by a report; where memory ran out nothing is said
abbrev pub HasDone : {T : Type 0} → PlainInterpreter → (State → Effect) → PlainInterpreter → Result T Fail → Type 0
HasDone m part n (Ok value) = Does m part n
HasDone m part n (Err (fail.Report report)) = Refuses m part report n
HasDone m part n (Err fail.WantOfMemory) = Unit {0}

-- why a line was not printed: more glyphs than this may not be, or memory ran out where so many may
abbrev pub IsNotPrinted : ℕ → Fail → Type 0
IsNotPrinted glyphs (fail.Report report) = (report ≡ Interrupt) × (most_printed < glyphs)
IsNotPrinted glyphs fail.WantOfMemory = glyphs ≤ most_printed

-- ---- what is still to come where a statement is in the middle of a step

-- what a part gives, and then the statement that it is a part of
abbrev pub part_gives : PlainInterpreter → Evaluation → (State → Outcome Found) → Coming
part_gives m e part s = carried_on (part s) (caller_of m.workspace (here m) e) m.stack

-- a part takes its values from those of the statement, and then the statement goes on
abbrev pub part_takes : PlainInterpreter → Evaluation → (List PlainArray → State → Outcome Values) → Coming
part_takes m e part s = and_then (part (stack_values m.workspace e) s) (λ values t. onward (record (evaluation_of m.workspace e) { values = values }) m.stack t)

-- the value of a statement is put to a purpose, and then what waits goes on
abbrev pub value_put : PlainInterpreter → Evaluation → PlainPurpose → Coming
value_put m e purpose s = and_then (put_to purpose (plain_place e.place) (found_in (evaluation_of m.workspace e).values) s) (λ next t. behind m.stack next t)

-- what a statement leads to, and then what waits goes on
abbrev pub statement_leads : PlainInterpreter → (State → Outcome Next) → Coming
statement_leads m statement s = and_then (statement s) (λ next t. behind m.stack next t)

-- a node number, where one is asked for
abbrev pub if_there : Bool → Option ℕ
if_there true = Some 0
if_there false = None
