-- How far an evaluation has come, and how a part of it ends.
use Rattle.std.specs.Prelude.{ℕ, List, Result, Ok, Err, nat_le, if◌then◌else◌}
use Rattle.apl_arrays.specs.declared.report.Report.{Report}
use Rattle.apl_arrays.specs.declared.report.Report.TheVariants.{WsFull}
use Rattle.apl_workspace.specs.Limits.{most_weight}
use Rattle.apl_workspace.specs.Workspace.{PlainWorkspace, workspace_weight}
use Rattle.sv_events.specs.Answer.{PlainAnswer}
use Rattle.sv_events.specs.declared.event.Act.{Act}

-- how far an evaluation has come: the workspace; the lines that were printed; the acts that were asked and answered; the answers that were not taken; how many statements may still be begun; how many applications were counted; and the second line of a report that arises here
pub record State : Type 0 where
  pub workspace : PlainWorkspace
  pub printed : List (List ℕ)
  pub asked : List Act
  pub answers : List PlainAnswer
  pub statements : ℕ
  pub applications : ℕ
  pub here : List ℕ

-- a part of an evaluation gives something, ends the line by a report, or asks an act to which no answer is left
pub data Outcome (T : Type 0) : Type 0 where
  gives : T → State → Outcome T
  refuses : Report → State → Outcome T
  asks : Act → State → Outcome T

-- a part that only changes how far the evaluation has come
abbrev pub Effect : Type 0
Effect = Outcome (Unit {0})

-- one part, and then another with what the first gives
abbrev pub and_then : {A B : Type 0} → Outcome A → (A → State → Outcome B) → Outcome B
and_then (gives value s) next = next value s
and_then (refuses report s) next = refuses report s
and_then (asks act s) next = asks act s

-- how far the evaluation has come when a part ends
abbrev pub state_of : {T : Type 0} → Outcome T → State
state_of (gives value s) = s
state_of (refuses report s) = s
state_of (asks act s) = s

-- a result, or the report in its place
abbrev pub outcome_of : {T : Type 0} → Result T Report → State → Outcome T
outcome_of (Ok value) s = gives value s
outcome_of (Err report) s = refuses report s

-- the workspace is this one from now on; where it would weigh too much, the old one stays, and that is WS FULL
abbrev pub with_workspace : PlainWorkspace → State → Effect
with_workspace w s = if nat_le (workspace_weight w) most_weight then gives tt (record s { workspace = w }) else refuses WsFull s
