-- What holds where memory ran out: no report was due that comes without it.
use Rattle.std.specs.Prelude.{◌≡◌, ◌+◌, ◌≤◌, ◌++◌, ℕ, List, [], ◌∷◌, Some, IfSome, length, sum_by}
use Rattle.apl_workspace.specs.Limits.{most_printed, most_weight}
use Rattle.apl_workspace.specs.Workspace.{PlainWorkspace, with_global, workspace_weight}
use Rattle.apl_workspace.specs.declared.meaning.Meaning.TheVariants as meaning
use Rattle.sv_events.specs.Answer.{PlainAnswer}
use Rattle.sv_events.specs.Row.{answer_row}
use Rattle.sv_events.specs.declared.event.Act.{Act}
use Rattle.sv_events.specs.declared.event.Act.TheVariants as act
use Rattle.apl_meaning.specs.State.{State, Outcome, gives, refuses, asks}
use Rattle.apl_statements.specs.Interpreter.{PlainInterpreter, state_at}

-- a part of an evaluation does not end the line by a report
abbrev pub IsNoReport : {T : Type 0} → Outcome T → Type 0
IsNoReport (gives value s) = Unit {0}
IsNoReport (refuses report s) = ⊥
IsNoReport (asks act s) = Unit {0}

-- no report of a part is due: whatever was asked, counted and taken before, and as long as no further answer comes, it does not end the line by one
abbrev pub NoReportIsDue : {T : Type 0} → PlainInterpreter → (State → Outcome T) → Type 0
NoReportIsDue m part = (asked : List Act) (count : ℕ) (taken : List (List ℕ)) → IsNoReport (part (state_at m asked count taken []))

-- the glyphs of lines
abbrev pub glyph_count : List (List ℕ) → ℕ
glyph_count lines = sum_by (λ line. length line) lines

-- of these lines some were printed, and the next one may be printed too, where so many glyphs were printed before them, and so many are now
pub record StopsAtLine (lines : List (List ℕ)) (before now : ℕ) : Type 0 where
  pub printed : List (List ℕ)
  pub line : List ℕ
  pub others : List (List ℕ)
  pub whole : lines ≡ printed ++ line ∷ others
  pub counted : now ≡ before + glyph_count printed
  pub fits : now + length line ≤ most_printed

-- the workspace does not weigh too much with the own copy that an answer to an act brings: the value of a use, or what was set
abbrev pub CopyFits : PlainWorkspace → Act → PlainAnswer → Type 0
CopyFits w (act.Use name) answer = IfSome (answer_row answer).value (λ value. workspace_weight (with_global w name (meaning.Shared (Some value))) ≤ most_weight)
CopyFits w (act.Set name value) answer = workspace_weight (with_global w name (meaning.Shared (Some value))) ≤ most_weight
CopyFits w other answer = Unit {0}
