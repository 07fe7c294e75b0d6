-- A machine as plain data, what is still to come of it, and what its calls change.
use Rattle.std.specs.Prelude.{◌≡◌, ◌<◌, ℕ, false, List, [], None}
use Rattle.apl_arrays.specs.declared.report.Report.{Report}
use Rattle.apl_workspace.specs.Workspace.{PlainWorkspace}
use Rattle.line_trees.specs.Parsing.{PlainTree}
use Rattle.line_trees.specs.Trees.{line_tree_of}
use Rattle.sv_events.specs.Answer.{PlainAnswer, plain_answer}
use Rattle.sv_events.specs.Row.{answer_row}
use Rattle.sv_events.specs.declared.event.Act.{Act}
use Rattle.apl_meaning.specs.Answers.{report_of_kind}
use Rattle.apl_meaning.specs.State.{State, Outcome, gives, and_then}
use Rattle.apl_meaning.specs.Tasks.{Next, goes_on, immediate, begun}
use Rattle.apl_meaning.specs.Statements.{is_misplaced, line_outcome}
use Rattle.apl_meaning.specs.Meaning.{most_statements, ran}
use Rattle.apl_values.specs.Parts.{reading_tree}
use Rattle.apl_values.specs.Pending.{PlainActPurpose, act_for_purpose, act_asked_for, brought_by, plain_act_purpose}
use Rattle.apl_statements.specs.Evaluating.{caller_of}
use Rattle.apl_statements.specs.Interpreter.{PlainInterpreter, at_rest_on}
use Rattle.apl_statements.specs.Stack.{PlainCaller, PlainWaiting, behind, carried_on}
use Rattle.apl_statements.specs.Wants.{CopyFits}
use Rattle.apl_calls.specs.Ended.{ended_by}
use Rattle.apl_answers.specs.Brought.{BringsEnough}
use Rattle.apl_machine.specs.declared.machine.Stage.{Stage}
use Rattle.apl_machine.specs.declared.machine.Stage.TheVariants as stage

-- what a machine does between calls: it is idle; it is to begin a line of this tree; an act is open, behind which the statement goes on; the act has its answer; or memory ran out, for good
pub data PlainStage : Type 0 where
  idle : PlainStage
  begins : PlainTree → PlainStage
  is_open : PlainActPurpose → PlainCaller → PlainStage
  has_answer : PlainAnswer → PlainActPurpose → PlainCaller → PlainStage
  lost : PlainStage

-- a machine: what is under way, and what the machine does
pub record PlainMachine : Type 0 where
  pub interpreter : PlainInterpreter
  pub stage : PlainStage

-- what a machine does, where reports have this second line
abbrev pub plain_stage : PlainWorkspace → List ℕ → Stage → PlainStage
plain_stage w shown stage.Idle = idle
plain_stage w shown (stage.Begins reading) = begins (reading_tree reading)
plain_stage w shown (stage.Open for_this e) = is_open (plain_act_purpose for_this.value) (caller_of w shown e)
plain_stage w shown (stage.Answered answer for_this e) = has_answer (plain_answer answer) (plain_act_purpose for_this.value) (caller_of w shown e)
plain_stage w shown stage.Lost = lost

-- what is still to come of a stage over what waits; of a machine that is idle or lost nothing is asked
abbrev pub stage_to_come : PlainStage → List PlainWaiting → State → Outcome Next
stage_to_come idle ws s = gives goes_on s
stage_to_come (begins tree) ws s = and_then (begun (line_outcome ran immediate (line_tree_of tree)) s) (λ next t. behind ws next t)
stage_to_come (is_open for_this caller) ws s = carried_on (act_asked_for for_this s) caller ws
stage_to_come (has_answer answer for_this caller) ws s = carried_on (brought_by answer for_this s) caller ws
stage_to_come lost ws s = gives goes_on s

-- what is still to come of a machine between calls
abbrev pub still_to_come : PlainMachine → State → Outcome Next
still_to_come m s = stage_to_come m.stage m.interpreter.stack s

-- an idle machine on a workspace
abbrev pub idle_on : PlainWorkspace → PlainMachine
idle_on w = record { interpreter = at_rest_on w; stage = idle }

-- a machine is idle: no line is under way
pub record IsIdle (m : PlainMachine) : Type 0 where
  pub stage : m.stage ≡ idle
  pub stack : m.interpreter.stack ≡ []
  pub frames : m.interpreter.workspace.frames ≡ []

-- this act is open in a stage
abbrev pub IsOpenIn : PlainWorkspace → PlainStage → Act → Type 0
IsOpenIn w idle asked = ⊥
IsOpenIn w (begins tree) asked = ⊥
IsOpenIn w (is_open for_this caller) asked = act_for_purpose for_this w ≡ asked
IsOpenIn w (has_answer answer for_this caller) asked = ⊥
IsOpenIn w lost asked = ⊥

-- this act of a machine is open
abbrev pub IsOpenAct : PlainMachine → Act → Type 0
IsOpenAct m asked = IsOpenIn m.interpreter.workspace m.stage asked

-- memory may run out in a stage before a report is told: not where no statement may be begun or the line may not stand there, nor where an answer ends the line, lacks what its act was for, or brings an own copy or a list that does not fit
abbrev pub MayWantMemory : PlainInterpreter → PlainStage → Type 0
MayWantMemory m idle = Unit {0}
MayWantMemory m (begins tree) = (0 < m.statements) × (is_misplaced immediate (line_tree_of tree) ≡ false)
MayWantMemory m (is_open for_this caller) = Unit {0}
MayWantMemory m (has_answer answer for_this caller) = (report_of_kind (answer_row answer).row.kind ≡ None) × CopyFits m.workspace (act_for_purpose for_this m.workspace) answer × BringsEnough m for_this answer
MayWantMemory m lost = Unit {0}

-- a machine may run: a line is to begin, or an act has its answer; one that is lost may too, and answers so
abbrev pub MayRun : PlainStage → Type 0
MayRun idle = ⊥
MayRun (begins tree) = Unit {0}
MayRun (is_open for_this caller) = ⊥
MayRun (has_answer answer for_this caller) = Unit {0}
MayRun lost = Unit {0}

-- an act of a stage is open
abbrev pub IsOpenStage : PlainStage → Type 0
IsOpenStage idle = ⊥
IsOpenStage (begins tree) = ⊥
IsOpenStage (is_open for_this caller) = Unit {0}
IsOpenStage (has_answer answer for_this caller) = ⊥
IsOpenStage lost = ⊥

-- a machine that is to begin a line of this tree
abbrev pub machine_before : List ℕ → PlainTree → PlainMachine → PlainMachine
machine_before line tree m = record { interpreter = record m.interpreter { statements = most_statements; input = line }; stage = begins tree }

-- a machine whose line was ended by a report
abbrev pub machine_after : Report → PlainInterpreter → PlainMachine
machine_after report m = record { interpreter = ended_by report m; stage = idle }

-- a machine without the lines that were printed
abbrev pub silent : PlainMachine → PlainMachine
silent m = record m { interpreter = record m.interpreter { output = [] } }
