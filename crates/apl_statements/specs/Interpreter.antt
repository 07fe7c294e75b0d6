-- A workspace and what is under way on it, as plain data.
use Rattle.std.specs.Prelude.{◌++◌, ℕ, List, []}
use Rattle.apl_workspace.specs.Workspace.{PlainWorkspace}
use Rattle.sv_events.specs.Answer.{PlainAnswer}
use Rattle.sv_events.specs.declared.event.Act.{Act}
use Rattle.apl_meaning.specs.State.{State}
use Rattle.apl_statements.specs.Evaluating.{here_of}
use Rattle.apl_statements.specs.Stack.{PlainWaiting}

-- a workspace, the lines that were not taken yet, the statements that may still be begun, the line as read, and the functions under way with the innermost first
pub record PlainInterpreter : Type 0 where
  pub workspace : PlainWorkspace
  pub output : List (List ℕ)
  pub statements : ℕ
  pub input : List ℕ
  pub stack : List PlainWaiting

-- nothing is under way on a workspace
abbrev pub at_rest_on : PlainWorkspace → PlainInterpreter
at_rest_on w = record { workspace = w; output = []; statements = 0; input = []; stack = [] }

-- the second line of a report that arises now
abbrev pub here : PlainInterpreter → List ℕ
here m = here_of m.input m.stack

-- how far the evaluation has come, with these acts asked, so many applications counted, these lines taken before, and these answers to come
abbrev pub state_at : PlainInterpreter → List Act → ℕ → List (List ℕ) → List PlainAnswer → State
state_at m asked count taken further = record {
  workspace = m.workspace;
  printed = taken ++ m.output;
  asked = asked;
  answers = further;
  statements = m.statements;
  applications = count;
  here = here m;
}
