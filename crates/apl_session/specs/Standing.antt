-- Where the inside of a session stands in its lines.
use Rattle.std.specs.Prelude.{◌≡◌, ◌+◌, ◌<◌, ◌≤◌, ◌++◌, ◌⊎◌, ℕ, Bool, true, false, List, [], ◌∷◌, Option, Some, None, drop, length}
use Rattle.std.specs.Global.{Box}
use Rattle.apl_arrays.specs.declared.report.Fail.{Fail}
use Rattle.apl_arrays.specs.declared.report.Fail.TheVariants as fail
use Rattle.apl_io.specs.Content.{Told}
use Rattle.apl_machine.specs.Alone.{IsAlone, IsOnShared}
use Rattle.apl_machine.specs.Machine.{PlainMachine, IsIdle, IsOpenAct, MayRun}
use Rattle.apl_machine.specs.Runs.{MachineStands, StandsOn}
use Rattle.apl_machine.specs.declared.flow.Stop.{Stop}
use Rattle.apl_machine.specs.declared.flow.Stop.TheVariants as stop
use Rattle.apl_meaning.specs.Meaning.{mean, most_statements}
use Rattle.line_trees.specs.Trees.{LineTree}
use Rattle.sv_events.specs.Answer.{PlainAnswer}
use Rattle.sv_events.specs.declared.event.Act.{Act}
use Rattle.session_rules.specs.Course.{Course, course_behind, course_at}
use Rattle.session_rules.specs.Session.{lines_done, session_of, statement_done}
use Rattle.session_rules.specs.Shelf.{Exchange, IsShelfRun, ShelfReply, shelf_replies_in}
use Rattle.apl_terminal.specs.Terminal.{PlainTerminal, printing, reporting}
use Rattle.apl_session.specs.Errands.{IsErrand, IsFirstAct, errand_rest}
use Rattle.apl_session.specs.Receipts.{PlainReceipt, acts_in, answers_in}
use Rattle.apl_session.specs.declared.errand.Errand.{Errand}
use Rattle.apl_session.specs.declared.progress.Progress.{Progress}
use Rattle.apl_session.specs.declared.session.SessionStage.{SessionStage}
use Rattle.apl_session.specs.declared.session.SessionStage.TheVariants as stage
use Rattle.apl_session.specs.declared.under_way.UnderWay.{UnderWay}
use Rattle.apl_session.specs.declared.under_way.UnderWay.TheVariants as under_way

-- the lines with these answers and the replies of these exchanges are done up to here: whatever answers and replies follow, what comes of all lines is what comes of the rest of the line, and then of those that are left
pub record IsAt (lines : List (List ℕ)) (answers : List PlainAnswer) (exchanges : List Exchange) (read : ℕ) (rest : Course → Course) (t : PlainTerminal) : Type 0 where
  pub acts : List Act
  pub same : (further : List PlainAnswer) (more : List ShelfReply)
      → session_of lines (answers ++ further) (shelf_replies_in exchanges ++ more) ≡ lines_done most_statements (drop read lines) (rest (course_at t acts exchanges further more))

-- a session stands between two lines
abbrev pub IsBetween : List (List ℕ) → List PlainAnswer → List Exchange → ℕ → PlainTerminal → Type 0
IsBetween lines answers exchanges read t = IsAt lines answers exchanges read (λ c. c) t

-- a line is under way: it was begun at a terminal with these answers given before it; the machine stands where the line has come with the answers since, and what it printed was taken to the terminal
pub record IsUnderWay (lines : List (List ℕ)) (answers : List PlainAnswer) (exchanges : List Exchange) (read : ℕ) (t : PlainTerminal) (m : PlainMachine) : Type 0 where
  pub before : PlainTerminal
  pub tree : LineTree
  pub line : List ℕ
  pub earlier : List PlainAnswer
  pub here : List PlainAnswer
  pub given : answers ≡ earlier ++ here
  pub begun : IsAt lines earlier exchanges read (λ c. course_behind c (mean tree line c.terminal.workspace c.answers most_statements)) before
  pub count : ℕ
  pub taken : List (List ℕ)
  pub stands : MachineStands m tree line before.workspace [] here count taken
  pub printed : t.transcript ≡ before.transcript ++ taken
  pub id : t.id ≡ before.id
  pub ended : t.ended ≡ before.ended

-- whatever replies follow, this act waits, all that the lines print with these answers was printed, and these are all calls of the shelf
pub record IsWaitingFor (lines : List (List ℕ)) (answers : List PlainAnswer) (exchanges : List Exchange) (transcript : List (List ℕ)) (act : Act) : Type 0 where
  pub waits : (more : List ShelfReply) → (session_of lines answers (shelf_replies_in exchanges ++ more)).waits ≡ Some act
  pub printed : (more : List ShelfReply) → (session_of lines answers (shelf_replies_in exchanges ++ more)).terminal.transcript ≡ transcript
  pub calls : (more : List ShelfReply) → (session_of lines answers (shelf_replies_in exchanges ++ more)).exchanges ≡ exchanges

-- the act that waits is open in the machine
pub record IsAsking (lines : List (List ℕ)) (answers : List PlainAnswer) (exchanges : List Exchange) (transcript : List (List ℕ)) (m : PlainMachine) (act : Act) : Type 0 where
  pub waiting : IsWaitingFor lines answers exchanges transcript act
  pub is_open : IsOpenAct m act

-- a line is the last that was read
pub record IsLastRead (lines : List (List ℕ)) (read : ℕ) (line : List ℕ) : Type 0 where
  pub before : ℕ
  pub rest : List (List ℕ)
  pub read_is : read ≡ before + 1
  pub here : drop before lines ≡ line ∷ rest

-- the last line that was read is this act alone, which has no answer yet: it was echoed, and nothing of it is done
pub record IsWaitingAlone (lines : List (List ℕ)) (answers : List PlainAnswer) (exchanges : List Exchange) (read : ℕ) (t : PlainTerminal) (asked : Act) : Type 0 where
  pub free : t.definition ≡ None
  pub line : List ℕ
  pub last : IsLastRead lines read line
  pub alone : IsAlone t.workspace line asked
  pub at : IsAt lines answers exchanges read (statement_done most_statements line) t

-- a command is under way, of which so much is left
pub record IsCommanded (lines : List (List ℕ)) (answers : List PlainAnswer) (exchanges : List Exchange) (read : ℕ) (t : PlainTerminal) (errand : Errand) : Type 0 where
  pub free : t.definition ≡ None
  pub fit : IsErrand errand t.workspace
  pub at : IsAt lines answers exchanges read (errand_rest errand) t

-- the line that is under way stands so, if one is
abbrev pub StandsBy : List (List ℕ) → List PlainAnswer → List Exchange → ℕ → PlainTerminal → UnderWay → Type 0
StandsBy lines answers exchanges read t under_way.Nothing = IsBetween lines answers exchanges read t
StandsBy lines answers exchanges read t (under_way.Alone act) = IsWaitingAlone lines answers exchanges read t act
StandsBy lines answers exchanges read t (under_way.Asking b act) = (t.definition ≡ None) × IsUnderWay lines answers exchanges read t b.value × IsAsking lines answers exchanges t.transcript b.value act
StandsBy lines answers exchanges read t (under_way.Answered b) = (t.definition ≡ None) × IsUnderWay lines answers exchanges read t b.value × MayRun b.value.stage
StandsBy lines answers exchanges read t (under_way.Commanding b act) = IsCommanded lines answers exchanges read t b.value × IsFirstAct b.value t.workspace act
StandsBy lines answers exchanges read t (under_way.Commanded b) = IsCommanded lines answers exchanges read t b.value

-- the inside of a session stands in its lines, with these answers and the replies of these exchanges
abbrev pub StandsIn : List (List ℕ) → List PlainAnswer → List Exchange → Progress → Type 0
StandsIn lines answers exchanges p = StandsBy lines answers exchanges p.read p.terminal p.under_way

-- a command may go on at a terminal: no definition is open, and what is left of it may be done
pub record CommandMayGoOn (t : PlainTerminal) (errand : Errand) : Type 0 where
  pub free : t.definition ≡ None
  pub fit : IsErrand errand t.workspace

-- no line is under way that waits for an answer, and where one was answered no definition is open
abbrev pub MayAdvance : PlainTerminal → UnderWay → Type 0
MayAdvance t under_way.Nothing = Unit {0}
MayAdvance t (under_way.Alone act) = ⊥
MayAdvance t (under_way.Asking b act) = ⊥
MayAdvance t (under_way.Answered b) = (t.definition ≡ None) × MayRun b.value.stage
MayAdvance t (under_way.Commanding b act) = ⊥
MayAdvance t (under_way.Commanded b) = CommandMayGoOn t b.value

-- an act alone can be given its answer at this terminal: no definition is open, its name is shared, and its line is one of so many
pub record MayHear (count read : ℕ) (t : PlainTerminal) (asked : Act) : Type 0 where
  pub free : t.definition ≡ None
  pub shared : IsOnShared t.workspace asked
  pub some : 0 < read
  pub within : read ≤ count

-- a line of so many is under way that waits for an answer
abbrev pub IsOpenLine : ℕ → ℕ → PlainTerminal → UnderWay → Type 0
IsOpenLine count read t under_way.Nothing = ⊥
IsOpenLine count read t (under_way.Alone act) = MayHear count read t act
IsOpenLine count read t (under_way.Asking b act) = IsOpenAct b.value act
IsOpenLine count read t (under_way.Answered b) = ⊥
IsOpenLine count read t (under_way.Commanding b act) = CommandMayGoOn t b.value × IsFirstAct b.value t.workspace act
IsOpenLine count read t (under_way.Commanded b) = ⊥

-- a line waits for an answer, or none is under way
abbrev pub IsPaused : UnderWay → Type 0
IsPaused under_way.Nothing = Unit {0}
IsPaused (under_way.Alone act) = Unit {0}
IsPaused (under_way.Asking b act) = Unit {0}
IsPaused (under_way.Answered b) = ⊥
IsPaused (under_way.Commanding b act) = Unit {0}
IsPaused (under_way.Commanded b) = ⊥

-- whether a line waits for an answer
abbrev pub has_open_act : UnderWay → Bool
has_open_act under_way.Nothing = false
has_open_act (under_way.Alone act) = true
has_open_act (under_way.Asking b act) = true
has_open_act (under_way.Answered b) = false
has_open_act (under_way.Commanding b act) = true
has_open_act (under_way.Commanded b) = false

-- an act of a command waits for its answer, and nothing else changed
pub record Commands (errand : Errand) (act : Act) (before after : Progress) : Type 0 where
  pub b : Box Errand
  pub is : b.value ≡ errand
  pub rest : after ≡ record before { under_way = under_way.Commanding b act }

-- a command may go on behind an answer, and nothing else changed
pub record MayGoBehind (errand : Errand) (before after : Progress) : Type 0 where
  pub b : Box Errand
  pub is : b.value ≡ errand
  pub rest : after ≡ record before { under_way = under_way.Commanded b }

-- a line ended by the report of why it failed; where memory ran out it did not
abbrev pub FailsBy : Fail → List ℕ → PlainTerminal → PlainTerminal → Type 0
FailsBy (fail.Report report) line before after = after ≡ reporting report line before
FailsBy fail.WantOfMemory line before after = ⊥

-- where a run stops and the line is over, the machine is idle
abbrev pub IsIdleAt : PlainMachine → Stop → Type 0
IsIdleAt m stop.Done = IsIdle m
IsIdleAt m (stop.Failed report) = IsIdle m
IsIdleAt m (stop.Asks act) = Unit {0}

-- the act that waits for its answer, if one does
abbrev pub open_act : UnderWay → Option Act
open_act under_way.Nothing = None
open_act (under_way.Alone act) = Some act
open_act (under_way.Asking b act) = Some act
open_act (under_way.Answered b) = None
open_act (under_way.Commanding b act) = Some act
open_act (under_way.Commanded b) = None

-- the workspace of a line that is over is taken back
abbrev pub with_workspace_of : PlainMachine → Progress → Progress
with_workspace_of m p = record p { terminal = record p.terminal { workspace = m.interpreter.workspace } }

-- what a machine printed stands behind what was printed before
abbrev pub with_output_of : PlainMachine → Progress → Progress
with_output_of m p = record p { terminal = printing m.interpreter.output p.terminal }

-- an act that a machine asked waits for its answer
abbrev pub Waits : PlainMachine → Act → UnderWay → Type 0
Waits m act under_way.Nothing = ⊥
Waits m act (under_way.Alone asked) = ⊥
Waits m act (under_way.Asking b asked) = (b.value ≡ m) × (asked ≡ act)
Waits m act (under_way.Answered b) = ⊥
Waits m act (under_way.Commanding b asked) = ⊥
Waits m act (under_way.Commanded b) = ⊥

-- where a run stops, the act that it asked waits, or the workspace is taken back
abbrev pub PausesAt : PlainMachine → Stop → Progress → Progress → Type 0
PausesAt m stop.Done before after = after ≡ with_workspace_of m before
PausesAt m (stop.Failed report) before after = after ≡ with_workspace_of m before
PausesAt m (stop.Asks act) before after = Waits m act after.under_way × (after ≡ record before { under_way = after.under_way })

-- no line is left to be done: all were read, or the user has ended the session
abbrev pub LinesAreOver : ℕ → ℕ → PlainTerminal → Type 0
LinesAreOver count read t = (count ≤ read) ⊎ (t.ended ≡ true)

-- the inside of a session went on to the act that waits, or to the end of its lines
pub record SessionComesTo (lines : List (List ℕ)) (answers : List PlainAnswer) (exchanges : List Exchange) (p : Progress) : Type 0 where
  pub stands : StandsIn lines answers exchanges p
  pub paused : IsPaused p.under_way
  pub over : p.under_way ≡ under_way.Nothing → LinesAreOver (length lines) p.read p.terminal

module _ {K : Type 0} (told : K → Option (Told (ℕ × List ℕ))) (faults : K → ℕ) where
  -- with some exchanges more, which led the shelf of a user from one state to another, this holds
  pub record WithCalls (user : ℕ) (old new : K) (exchanges : List Exchange) (Holds : List Exchange → Type 0) : Type 0 where
    pub more : List Exchange
    pub served : IsShelfRun told faults user old more new
    pub holds : Holds (more ++ exchanges)

-- the line that asked an act was handed this answer, and may go on
pub record IsHanded (m : PlainMachine) (answer : PlainAnswer) (before after : Progress) : Type 0 where
  pub handed : Box PlainMachine
  pub stands : StandsOn m 0 (answer ∷ []) [] handed.value
  pub may : MayRun handed.value.stage
  pub rest : after ≡ record before { under_way = under_way.Answered handed }

-- the act that waited was given an answer
pub record IsAnswered (lines : List (List ℕ)) (answers : List PlainAnswer) (exchanges : List Exchange) (act : Act) (answer : PlainAnswer) (p : Progress) : Type 0 where
  pub waited : (more : List ShelfReply) → (session_of lines answers (shelf_replies_in exchanges ++ more)).waits ≡ Some act
  pub stands : StandsIn lines (answers ++ answer ∷ []) exchanges p
  pub may : MayAdvance p.terminal p.under_way

-- between two lines a session can go on, or it is finished where none is left
abbrev pub IsFree : ℕ → ℕ → PlainTerminal → SessionStage → Type 0
IsFree count read t stage.Ready = Unit {0}
IsFree count read t stage.Waiting = ⊥
IsFree count read t stage.Finished = LinesAreOver count read t
IsFree count read t stage.Failed = ⊥

-- a session of so many lines is this far
abbrev pub IsThisFar : ℕ → ℕ → PlainTerminal → UnderWay → SessionStage → Type 0
IsThisFar count read t under_way.Nothing at = IsFree count read t at
IsThisFar count read t (under_way.Alone act) at = at ≡ stage.Waiting
IsThisFar count read t (under_way.Asking b act) at = at ≡ stage.Waiting
IsThisFar count read t (under_way.Answered b) at = at ≡ stage.Ready
IsThisFar count read t (under_way.Commanding b act) at = at ≡ stage.Waiting
IsThisFar count read t (under_way.Commanded b) at = at ≡ stage.Ready

-- a session has come this far: its inside stands in its lines with the answers in its receipts and the replies of these exchanges, whatever replies follow its receipts have the acts that were asked
pub record IsSession (lines : List (List ℕ)) (receipts : List PlainReceipt) (exchanges : List Exchange) (p : Progress) (at : SessionStage) : Type 0 where
  pub acts : (more : List ShelfReply) → acts_in receipts ≡ (session_of lines (answers_in receipts) (shelf_replies_in exchanges ++ more)).acts
  pub stands : StandsIn lines (answers_in receipts) exchanges p
  pub far : IsThisFar (length lines) p.read p.terminal p.under_way at

-- what holds of a session while memory did not run out: there are such exchanges
pub record IsAlive (lines : List (List ℕ)) (receipts : List PlainReceipt) (p : Progress) (at : SessionStage) : Type 0 where
  pub exchanges : List Exchange
  pub come : IsSession lines receipts exchanges p at
