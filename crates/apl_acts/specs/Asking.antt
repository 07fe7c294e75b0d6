-- What a system function asks: what is done for rows of names, or a query.
use Rattle.std.specs.Prelude.{◌≡◌, ℕ, List, Result, Ok, Err}
use Rattle.apl_arrays.specs.Array.{PlainArray}
use Rattle.apl_arrays.specs.declared.report.Fail.{Fail}
use Rattle.apl_arrays.specs.declared.report.Fail.TheVariants as fail
use Rattle.apl_workspace.specs.Workspace.{PlainWorkspace}
use Rattle.sv_events.specs.Answer.{PlainAnswer}
use Rattle.sv_events.specs.declared.event.Act.{Act}
use Rattle.apl_meaning.specs.Expressions.{Found, valued}
use Rattle.apl_meaning.specs.State.{State, Outcome, refuses}
use Rattle.apl_values.specs.Pending.{act_asked_for, names_asked, parties_asked}
use Rattle.apl_values.specs.Rows.{AreRows, rest_of_rows, rows_left}
use Rattle.apl_statements.specs.Interpreter.{PlainInterpreter, state_at}
use Rattle.apl_statements.specs.Wants.{NoReportIsDue}
use Rattle.apl_acts.specs.declared.asking.Asking.{Asking}
use Rattle.apl_acts.specs.declared.asking.Asking.TheVariants as asking

-- what is still to come of it
abbrev pub asked_part : Asking → State → Outcome Found
asked_part (asking.Rows rows) s = rest_of_rows rows.numbers.items (rows_left rows) rows.shape.items s
asked_part asking.Parties s = act_asked_for parties_asked s
asked_part (asking.Names party) s = act_asked_for (names_asked party) s

-- it may be asked: each of its rows may be done, and their numbers make an array
abbrev pub MayBeAsked : PlainWorkspace → Asking → Type 0
MayBeAsked w (asking.Rows rows) = AreRows w rows
MayBeAsked w asking.Parties = Unit {0}
MayBeAsked w (asking.Names party) = Unit {0}

-- a part of an evaluation asks this, or ends the line by a report; where memory ran out, no report of it is due
abbrev pub Asks : PlainInterpreter → (State → Outcome PlainArray) → Result Asking Fail → Type 0
Asks m part (Ok what) = (acts : List Act) (count : ℕ) (taken : List (List ℕ)) (further : List PlainAnswer) → valued (part (state_at m acts count taken further)) ≡ asked_part what (state_at m acts count taken further)
Asks m part (Err (fail.Report report)) = (acts : List Act) (count : ℕ) (taken : List (List ℕ)) (further : List PlainAnswer) → part (state_at m acts count taken further) ≡ refuses report (state_at m acts count taken further)
Asks m part (Err fail.WantOfMemory) = NoReportIsDue m part
