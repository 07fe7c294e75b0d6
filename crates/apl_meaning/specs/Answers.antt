-- Acts that are asked, and what their answers do to the line and to the own copy.
use Rattle.std.specs.Prelude.{◌++◌, ℕ, List, [], ◌∷◌, Option, Some, None}
use Rattle.apl_arrays.specs.Array.{PlainArray}
use Rattle.apl_arrays.specs.declared.report.Report.{Report}
use Rattle.apl_arrays.specs.declared.report.Report.TheVariants as report
use Rattle.apl_workspace.specs.Workspace.{with_global}
use Rattle.apl_workspace.specs.declared.meaning.Meaning.TheVariants as meaning
use Rattle.sv_events.specs.Answer.{PlainAnswer}
use Rattle.sv_events.specs.Row.{answer_row}
use Rattle.sv_events.specs.declared.event.Act.{Act}
use Rattle.sv_events.specs.declared.event.Act.TheVariants as act
use Rattle.sv_events.specs.declared.row.AnswerKind.{AnswerKind}
use Rattle.sv_events.specs.declared.row.AnswerKind.TheVariants as kind
use Rattle.apl_meaning.specs.State.{State, Outcome, gives, refuses, asks, Effect, and_then, with_workspace}

-- an act takes the first of these answers; where there is none, it is asked
abbrev pub answer_taken_from : List PlainAnswer → Act → State → Outcome PlainAnswer
answer_taken_from [] asked s = asks asked s
answer_taken_from (answer ∷ answers) asked s = gives answer (record s { asked = s.asked ++ asked ∷ []; answers = answers })

-- the report by which an answer ends the line, if it does
abbrev pub report_of_kind : AnswerKind → Option Report
report_of_kind kind.Degree = None
report_of_kind kind.Granted = None
report_of_kind kind.Value = None
report_of_kind kind.NoValue = Some report.Value
report_of_kind kind.Held = None
report_of_kind kind.Abandoned = Some report.SvInterrupt
report_of_kind kind.NotShared = Some report.Value
report_of_kind kind.OfferLimit = Some report.SvLimit
report_of_kind kind.Full = Some report.SvFull
report_of_kind kind.Vector = None
report_of_kind kind.Parties = None
report_of_kind kind.Names = None
report_of_kind kind.Kept = None
report_of_kind kind.Done = None

-- an answer that ends the line by this report, or does not
abbrev pub unless_ended : Option Report → PlainAnswer → State → Outcome PlainAnswer
unless_ended None answer s = gives answer s
unless_ended (Some ended) answer s = refuses ended s

-- an act and its answer; some answers end the line
abbrev pub answered_act : Act → State → Outcome PlainAnswer
answered_act asked s = and_then (answer_taken_from s.answers asked s) (λ answer s. unless_ended (report_of_kind (answer_row answer).row.kind) answer s)

-- the own copy of a shared name is this value; where the workspace would weigh too much with it, the old copy stays
abbrev pub with_copy : List ℕ → PlainArray → State → Effect
with_copy name value s = with_workspace (with_global s.workspace name (meaning.Shared (Some value))) s

-- a value that was got is the own copy too
abbrev pub got : List ℕ → Option PlainArray → State → Outcome PlainArray
got name None s = refuses report.Value s
got name (Some value) s = and_then (with_copy name value s) (λ _ s. gives value s)

-- a shared name is used
abbrev pub use_of : List ℕ → State → Outcome PlainArray
use_of name s = and_then (answered_act (act.Use name) s) (λ answer s. got name (answer_row answer).value s)

-- a shared name is set
abbrev pub set_of : List ℕ → PlainArray → State → Effect
set_of name value s = and_then (answered_act (act.Set name value) s) (λ _ s. with_copy name value s)
