-- Commands in a session: the call of the shelf, the acts of names that are retracted and of offers that are made again, and what is done between and behind them.
use Rattle.std.specs.Prelude.{◌++◌, ℕ, Bool, List, [], ◌∷◌, Option, Some, None, drop}
use Rattle.apl_arrays.specs.declared.report.Report.{Report}
use Rattle.apl_arrays.specs.declared.report.Report.TheVariants.{SvFull, SvLimit}
use Rattle.apl_meaning.specs.Deeds.{value_of}
use Rattle.apl_workspace.specs.Workspace.{PlainWorkspace, global_in}
use Rattle.apl_workspace.specs.declared.remake.Remake.{Remake}
use Rattle.sv_events.specs.Answer.{PlainAnswer}
use Rattle.sv_events.specs.Row.{answer_row}
use Rattle.sv_events.specs.declared.event.Act.{Act}
use Rattle.sv_events.specs.declared.event.Act.TheVariants as act
use Rattle.sv_events.specs.declared.row.AnswerKind.{AnswerKind}
use Rattle.sv_events.specs.declared.row.AnswerKind.TheVariants as kind
use Rattle.ws_commands.specs.Reading.{step_of}
use Rattle.ws_commands.specs.Step.{Step}
use Rattle.ws_commands.specs.Todo.{PlainTodo}
use Rattle.apl_terminal.specs.Commands.{finishing, naming_alone, terminal_sharing, telling, unsharing}
use Rattle.apl_terminal.specs.Terminal.{PlainTerminal}
use Rattle.session_rules.specs.Course.{Course, with_terminal}
use Rattle.session_rules.specs.Shelf.{Call, Exchange, ShelfReply, call_of, next_reply, todo_by}

-- ---- acts of a command

-- the report by which an answer ends a command, if it does
abbrev pub command_end : AnswerKind → Option Report
command_end kind.Full = Some SvFull
command_end kind.OfferLimit = Some SvLimit
command_end _ = None

-- a command is ended by the name of a report, alone, or it goes on
abbrev pub unless_reported : Option Report → (Course → Course) → Course → Course
unless_reported None next c = next c
unless_reported (Some report) next c = with_terminal (naming_alone report c.terminal) c

-- an act of a command takes the first of these answers, and the command goes on behind what that leaves, unless it ends; without an answer the act waits
abbrev pub asking_act_by : List PlainAnswer → Act → (PlainAnswer → PlainTerminal → PlainTerminal) → (Course → Course) → Course → Course
asking_act_by [] asked leaves next c = record c { waits = Some asked }
asking_act_by (answer ∷ answers) asked leaves next c =
    unless_reported (command_end (answer_row answer).row.kind) (λ d. next (with_terminal (leaves answer d.terminal) d)) (record c { acts = c.acts ++ asked ∷ []; answers = answers })

-- an act of a command, and what comes behind it
abbrev pub asking_act : Act → (PlainAnswer → PlainTerminal → PlainTerminal) → (Course → Course) → Course → Course
asking_act asked leaves next c = asking_act_by c.answers asked leaves next c

-- shared names are retracted, one after another
abbrev pub retracting : List (List ℕ) → (Course → Course) → Course → Course
retracting [] next c = next c
retracting (name ∷ names) next c = asking_act (act.Retract name) (unsharing name) (retracting names next) c

-- an offer with the value that its name has
abbrev pub offer_again : Remake → PlainWorkspace → Act
offer_again offer w = act.Offer offer.to offer.local offer.surrogate (value_of (global_in w offer.local))

-- a name that was offered again is shared, with the value that it has
abbrev pub shared_again : Remake → PlainTerminal → PlainTerminal
shared_again offer t = terminal_sharing offer (value_of (global_in t.workspace offer.local)) t

-- offers are made again, one after another
abbrev pub remaking : List Remake → (Course → Course) → Course → Course
remaking [] next c = next c
remaking (offer ∷ offers) next c = asking_act (offer_again offer c.terminal.workspace) (λ _ t. shared_again offer t) (remaking offers next) c

-- ---- a command

-- its lines are printed
abbrev pub lines_told : List ℕ → PlainTodo → Course → Course
lines_told line todo c = with_terminal (telling line todo.counted todo.lines c.terminal) c

-- its change is made, its offers are made again, and its lines are printed
abbrev pub change_made : List ℕ → PlainTodo → Course → Course
change_made line todo c = remaking todo.remakes (lines_told line todo) (with_terminal (finishing todo.change c.terminal) c)

-- what is to be done for it: names are retracted, and then the rest
abbrev pub todo_done : List ℕ → PlainTodo → Course → Course
todo_done line todo c = retracting todo.retract (change_made line todo) c

-- a call of the shelf takes the next reply
abbrev pub shelf_called : Option Call → Course → Course
shelf_called None c = c
shelf_called (Some call) c = record c { exchanges = record { call = call; reply = next_reply c.replies } ∷ c.exchanges; replies = drop 1 c.replies }

-- a step takes the next reply, if it is a call, and then is done what is to be done by it
abbrev pub shelf_step_done : List ℕ → Step → Course → Course
shelf_step_done line step c = todo_done line (todo_by step (next_reply c.replies)) (shelf_called (call_of step) c)

-- a line that is a command
abbrev pub command_done : List ℕ → Course → Course
command_done line c = shelf_step_done line (step_of line c.terminal.workspace c.terminal.id) c
