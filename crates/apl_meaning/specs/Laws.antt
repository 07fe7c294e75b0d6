-- What holds of every line: it takes its answers one by each act, and those that it does not take come back; what came of it with fewer answers is the beginning of what comes of it with more; and where no name is shared its first act is an offer or a query.
use Rattle.std.specs.Prelude.{◌≡◌, ◌≤◌, ◌++◌, ℕ, Bool, false, List, [], ◌∷◌, Option, Some, None, count_by, is_some, length}
use Rattle.apl_workspace.specs.Meaning.{NameTable, is_shared_meaning}
use Rattle.apl_workspace.specs.Workspace.{PlainWorkspace}
use Rattle.sv_events.specs.Answer.{PlainAnswer}
use Rattle.sv_events.specs.Fits.{ends_all}
use Rattle.sv_events.specs.Row.{act_row, answer_row}
use Rattle.sv_events.specs.declared.event.Act.{Act}
use Rattle.sv_events.specs.declared.event.Act.TheVariants as act
use Rattle.apl_meaning.specs.Answers.{report_of_kind}
use Rattle.apl_meaning.specs.State.{State, Outcome, gives, refuses, asks, state_of}

-- more answers behind those that are left
abbrev pub with_more : List PlainAnswer → State → State
with_more more s = record s { answers = s.answers ++ more }

-- it is over: it asks no act
abbrev pub IsOver : {T : Type 0} → Outcome T → Type 0
IsOver (gives value s) = Unit {0}
IsOver (refuses report s) = Unit {0}
IsOver (asks act s) = ⊥

-- what is over, with more answers behind those that are left
abbrev pub and_more : {T : Type 0} → List PlainAnswer → Outcome T → Outcome T
and_more more (gives value s) = gives value (with_more more s)
and_more more (refuses report s) = refuses report (with_more more s)
and_more more (asks act s) = asks act s

-- what was printed, asked and counted at one time is the beginning of what was at another, and statements were only used up
pub record IsAfter (earlier later : State) : Type 0 where
  pub lines : List (List ℕ)
  pub printed : later.printed ≡ earlier.printed ++ lines
  pub acts : List Act
  pub asked : later.asked ≡ earlier.asked ++ acts
  pub applications : earlier.applications ≤ later.applications
  pub statements : later.statements ≤ earlier.statements

-- ---- the answers that a line takes

-- an answer that is reported, which ends its line
abbrev pub is_reported : PlainAnswer → Bool
is_reported answer = is_some (report_of_kind (answer_row answer).row.kind)

-- how many answers may have been reported: one, where the line ended by a report
abbrev pub most_reported : {T : Type 0} → Outcome T → ℕ
most_reported (gives value s) = 0
most_reported (refuses report s) = 1
most_reported (asks act s) = 0

-- an act waits where all answers were taken, and it is no leave
abbrev pub WaitsInNeed : {T : Type 0} → Outcome T → Type 0
WaitsInNeed (gives value s) = Unit {0}
WaitsInNeed (refuses report s) = Unit {0}
WaitsInNeed (asks act s) = (s.answers ≡ []) × (ends_all (act_row act).row.ends ≡ false)

-- a part of an evaluation took these answers, the first that there were, one by each act that it asked
pub record Takes {T : Type 0} (s : State) (o : Outcome T) : Type 0 where
  pub taken : List PlainAnswer
  pub acts : List Act
  pub answers : s.answers ≡ taken ++ (state_of o).answers
  pub asked : (state_of o).asked ≡ s.asked ++ acts
  pub one_by_one : length acts ≡ length taken
  pub reported : count_by is_reported taken ≤ most_reported o
  pub in_need : WaitsInNeed o

-- where an act waited, it is the next one that was asked and answered in another outcome
abbrev pub GoesOnIn : {A B : Type 0} → Outcome A → Outcome B → Type 0
GoesOnIn (gives value s) o = Unit {0}
GoesOnIn (refuses report s) o = Unit {0}
GoesOnIn (asks act s) o = (acts : List Act) × ((state_of o).asked ≡ s.asked ++ act ∷ acts)

-- ---- the first act of a line

-- no name of a table is shared
abbrev pub NoneShared : NameTable → Type 0
NoneShared [] = Unit {0}
NoneShared (entry ∷ names) = (is_shared_meaning entry.1 ≡ false) × NoneShared names

-- no name of these tables is shared
abbrev pub NoneSharedIn : List NameTable → Type 0
NoneSharedIn [] = Unit {0}
NoneSharedIn (table ∷ tables) = NoneShared table × NoneSharedIn tables

-- no name of a workspace is shared
pub record SharesNothing (w : PlainWorkspace) : Type 0 where
  pub globals : NoneShared w.globals
  pub frames : NoneSharedIn w.frames

-- an act that needs no shared name: an offer, or a query
abbrev pub IsOpening : Act → Type 0
IsOpening (act.Offer to local surrogate value) = Unit {0}
IsOpening (act.Retract name) = ⊥
IsOpening (act.SetControl name control) = ⊥
IsOpening (act.AskControl name) = ⊥
IsOpening (act.AskState name) = ⊥
IsOpening (act.AskDegree name) = ⊥
IsOpening act.AskParties = Unit {0}
IsOpening (act.AskNames party) = Unit {0}
IsOpening (act.Set name value) = ⊥
IsOpening (act.Use name) = ⊥
IsOpening act.Leave = ⊥

-- the first of these acts, if there is one, and else the one that waits, is an opening one
abbrev pub BeginsWithOpening : List Act → Option Act → Type 0
BeginsWithOpening [] None = Unit {0}
BeginsWithOpening [] (Some waiting) = IsOpening waiting
BeginsWithOpening (first ∷ acts) waiting = IsOpening first

-- the act that waits for its answer, if one does
abbrev pub waiting_act : {T : Type 0} → Outcome T → Option Act
waiting_act (gives value s) = None
waiting_act (refuses report s) = None
waiting_act (asks asked s) = Some asked
