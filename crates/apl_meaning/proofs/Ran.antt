-- What comes of tasks has the equations of its bounded form, with no bound in them.
use Rattle.std.proofs.Common.{◌≡◌, ℕ, suc, List, sym, ap, arith}
use Rattle.apl_workspace.specs.Function.{PlainFunction}
use Rattle.apl_workspace.specs.Workspace.{PlainWorkspace}
use Rattle.line_trees.specs.Trees.{LineTree}
use Rattle.sv_events.specs.Answer.{PlainAnswer}
use Rattle.apl_meaning.specs.State.{State}
use Rattle.apl_meaning.specs.Tasks.{Place, immediate, lines_from, text_at, begun, line_numbered}
use Rattle.apl_meaning.specs.Statements.{line_outcome, text_outcome}
use Rattle.apl_meaning.specs.Meaning.{closed, function_line, mean, ran, run_below, start_of}
use Rattle.apl_meaning.proofs.Lines.{runs}
use Rattle.apl_meaning.proofs.Enough.{RunsAgree, begun_agrees, enough, function_agrees, line_agrees, texts_agree}

-- below a bound the bounded form is the other
bounded : (most : ℕ) → RunsAgree most (run_below most) ran
bounded most task s few = sym (enough (suc s.statements) most (omega (arith, few)) task s (omega arith))

pub ran_lines : (function : PlainFunction) (number : ℕ) (s : State) → ran (lines_from function number) s ≡ function_line ran function number (line_numbered function.lines number) s
unfolding run_below
ran_lines function number s = function_agrees s.statements (run_below s.statements) ran (runs s.statements) (bounded s.statements) function number (line_numbered function.lines number) s (omega arith)

pub ran_text : (place : Place) (text : List ℕ) (s : State) → ran (text_at place text) s ≡ begun (text_outcome ran place text) s
unfolding run_below
ran_text place text s = begun_agrees s.statements (text_outcome (run_below s.statements) place text) (text_outcome ran place text) (texts_agree s.statements (run_below s.statements) ran (runs s.statements) (bounded s.statements) place text) s.statements s (omega arith)

pub mean_ran : (tree : LineTree) (line : List ℕ) (w : PlainWorkspace) (answers : List PlainAnswer) (left : ℕ) → mean tree line w answers left ≡ closed (begun (line_outcome ran immediate tree) (start_of line w answers left))
mean_ran tree line w answers left =
    ap closed (begun_agrees left (line_outcome (run_below left) immediate tree) (line_outcome ran immediate tree) (line_agrees left (run_below left) ran (runs left) (bounded left) immediate tree) left (start_of line w answers left) (omega arith))
