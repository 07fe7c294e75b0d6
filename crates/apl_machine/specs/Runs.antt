-- Where a machine stands in a line, and how it may stop: what the calls of a machine promise.
use Rattle.std.specs.Prelude.{◌≡◌, ◌+◌, ◌++◌, ℕ, List, []}
use Rattle.apl_arrays.specs.declared.report.Report.{Report}
use Rattle.apl_workspace.specs.Workspace.{PlainWorkspace}
use Rattle.line_trees.specs.Trees.{LineTree}
use Rattle.sv_events.specs.Answer.{PlainAnswer}
use Rattle.sv_events.specs.declared.event.Act.{Act}
use Rattle.apl_meaning.specs.State.{State, Effect, gives, refuses, asks}
use Rattle.apl_meaning.specs.Tasks.{begun, immediate}
use Rattle.apl_meaning.specs.Statements.{line_outcome}
use Rattle.apl_meaning.specs.Meaning.{closed, most_statements, run_below, start_of}
use Rattle.apl_meaning.specs.Printing.{report_lines}
use Rattle.apl_statements.specs.Interpreter.{state_at}
use Rattle.apl_machine.specs.declared.flow.Stop.{Stop}
use Rattle.apl_machine.specs.declared.flow.Stop.TheVariants as stop
use Rattle.apl_machine.specs.Machine.{PlainMachine, IsIdle, IsOpenAct, still_to_come}
pub use Rattle.apl_values.specs.Parts.{IsTreeOf}

-- the meaning of a line that is begun when these lines were printed: as `mean` says, and what it prints stands behind them
abbrev pub mean_behind : List (List ℕ) → LineTree → List ℕ → PlainWorkspace → List PlainAnswer → Effect
mean_behind earlier tree line w answers = closed (begun (λ s. line_outcome (run_below most_statements) immediate tree s) (record (start_of line w answers most_statements) { printed = earlier }))

-- a machine stands where a line, begun on a workspace when these lines were printed, has come with these answers, this count and these lines taken: whatever answers follow, what is still to come of it is what is still to come of the line
pub record MachineStands (m : PlainMachine) (tree : LineTree) (line : List ℕ) (w : PlainWorkspace) (earlier : List (List ℕ)) (answers : List PlainAnswer) (count : ℕ) (taken : List (List ℕ)) : Type 0 where
  pub asked : List Act
  pub comes : (further : List PlainAnswer) → mean_behind earlier tree line w (answers ++ further) ≡ closed (still_to_come m (state_at m.interpreter asked count taken further))

-- whichever line a machine stood in, with the answers so far that line comes to this where the machine is now
abbrev pub ComesTo : PlainMachine → ℕ → PlainMachine → (State → Effect) → Type 0
ComesTo before counted after end =
    (tree : LineTree) (line : List ℕ) (w : PlainWorkspace) (earlier : List (List ℕ)) (answers : List PlainAnswer) (count : ℕ) (taken : List (List ℕ)) → MachineStands before tree line w earlier answers count taken
    → (asked : List Act) × (mean_behind earlier tree line w answers ≡ end (state_at after.interpreter asked (count + counted) taken []))

-- whichever line a machine stood in, another stands there too, behind so many applications, so many answers and so many lines taken
abbrev pub StandsOn : PlainMachine → ℕ → List PlainAnswer → List (List ℕ) → PlainMachine → Type 0
StandsOn before counted more lines after =
    (tree : LineTree) (line : List ℕ) (w : PlainWorkspace) (earlier : List (List ℕ)) (answers : List PlainAnswer) (count : ℕ) (taken : List (List ℕ)) → MachineStands before tree line w earlier answers count taken
    → MachineStands after tree line w earlier (answers ++ more) (count + counted) (taken ++ lines)

-- the line is over, as it is meant to end
pub record EndsDone (before : PlainMachine) (counted : ℕ) (after : PlainMachine) : Type 0 where
  pub comes : ComesTo before counted after (λ s. gives tt s)
  pub idle : IsIdle after

-- the line ended by this report, as it is meant to; its two lines are the last that were printed, and the second is the one that the meaning shows
pub record EndsBy (report : Report) (before : PlainMachine) (counted : ℕ) (after : PlainMachine) : Type 0 where
  pub shown : List ℕ
  pub comes : ComesTo before counted after (λ s. refuses report (record s { here = shown }))
  pub front : List (List ℕ)
  pub printed : after.interpreter.output ≡ front ++ report_lines report shown
  pub idle : IsIdle after

-- the line asks this act with the answers so far, and the machine stands there
pub record AsksThere (act : Act) (before : PlainMachine) (counted : ℕ) (after : PlainMachine) : Type 0 where
  pub comes : ComesTo before counted after (λ s. asks act s)
  pub stands : StandsOn before counted [] [] after
  pub is_open : IsOpenAct after act

-- a run that counted so many applications stops so
abbrev pub StopsAs : PlainMachine → ℕ → PlainMachine → Stop → Type 0
StopsAs before counted after stop.Done = EndsDone before counted after
StopsAs before counted after (stop.Failed report) = EndsBy report before counted after
StopsAs before counted after (stop.Asks act) = AsksThere act before counted after
