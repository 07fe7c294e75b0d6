-- A part of a line on a workspace and behind printed lines, which leads to another workspace and to more lines, or ends there.
use Rattle.std.specs.Prelude.{◌≡◌, ◌++◌, ℕ, List, Result, Ok, Err}
use Rattle.apl_arrays.specs.declared.report.Fail.{Fail}
use Rattle.apl_arrays.specs.declared.report.Fail.TheVariants as fail
use Rattle.apl_arrays.specs.declared.report.Report.{Report}
use Rattle.apl_workspace.specs.Workspace.{PlainWorkspace}
use Rattle.apl_meaning.specs.State.{State, Effect, gives, refuses}

-- a part of a line that begins on one workspace, behind these printed lines, comes to another workspace and to more lines
pub record Leads (w : PlainWorkspace) (before : List (List ℕ)) (part : State → Effect) (v : PlainWorkspace) (after : List (List ℕ)) : Type 0 where
  pub same : (s : State) (front : List (List ℕ)) → s.workspace ≡ w → s.printed ≡ front ++ before → part s ≡ gives tt (record s { workspace = v; printed = front ++ after })

-- it comes there to a report, which ends the line
pub record EndsThere (w : PlainWorkspace) (before : List (List ℕ)) (part : State → Effect) (report : Report) (v : PlainWorkspace) (after : List (List ℕ)) : Type 0 where
  pub same : (s : State) (front : List (List ℕ)) → s.workspace ≡ w → s.printed ≡ front ++ before → part s ≡ refuses report (record s { workspace = v; printed = front ++ after })

-- it comes there, or to a report; where memory ran out nothing is said
abbrev pub HasLed : {T : Type 0} → PlainWorkspace → List (List ℕ) → (State → Effect) → PlainWorkspace → List (List ℕ) → Result T Fail → Type 0
HasLed w before part v after (Ok value) = Leads w before part v after
HasLed w before part v after (Err (fail.Report report)) = EndsThere w before part report v after
HasLed w before part v after (Err fail.WantOfMemory) = Unit {0}
