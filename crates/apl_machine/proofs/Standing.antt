-- A machine stands where a line has come: at its beginning, and behind each call.
use Rattle.std.proofs.Common.{◌≡◌, ℕ, ◌+◌, suc, List, [], ◌∷◌, ◌++◌, refl, sym, ap, ◌∙◌, arith, append-nil, append_assoc}
use Rattle.apl_arrays.specs.declared.report.Report.{Report}
use Rattle.apl_workspace.specs.Workspace.{PlainWorkspace}
use Rattle.line_trees.specs.Parsing.{PlainTree}
use Rattle.line_trees.specs.Trees.{LineTree, line_tree_of}
use Rattle.sv_events.specs.Answer.{PlainAnswer}
use Rattle.sv_events.specs.declared.event.Act.{Act}
use Rattle.apl_meaning.specs.State.{State, Outcome, gives, refuses, asks, and_then}
use Rattle.apl_meaning.specs.Tasks.{Next, goes_on, immediate, begun}
use Rattle.apl_meaning.specs.Printing.{report_lines}
use Rattle.apl_meaning.specs.Statements.{line_outcome}
use Rattle.apl_meaning.specs.Meaning.{closed, ran, run_below}
use Rattle.apl_meaning.proofs.Enough.{RunsAgree, begun_agrees, enough, line_agrees}
use Rattle.apl_meaning.proofs.Lines.{runs}
use Rattle.apl_values.specs.Pending.{PlainActPurpose, act_for_purpose}
use Rattle.apl_statements.specs.Interpreter.{PlainInterpreter, here, state_at}
use Rattle.apl_statements.specs.Moves.{Moves}
use Rattle.apl_statements.specs.Stack.{PlainCaller, PlainWaiting, behind}
use Rattle.apl_calls.specs.Ended.{ended_by}
use Rattle.apl_machine.specs.Machine.{PlainStage, idle, begins, is_open, has_answer, lost, PlainMachine, IsOpenIn, machine_after, machine_before, stage_to_come, still_to_come}
use Rattle.apl_machine.specs.Runs.{ComesTo, MachineStands, StandsOn, mean_behind}

-- nothing more behind a part
then_nothing : (o : Outcome Next) → and_then o (λ next t. gives next t) ≡ o
then_nothing (gives next t) = refl
then_nothing (refuses report t) = refl
then_nothing (asks act t) = refl

-- with no answers more
with_all : (earlier : List (List ℕ)) (tree : LineTree) (line : List ℕ) (w : PlainWorkspace) (answers : List PlainAnswer) → mean_behind earlier tree line w answers ≡ mean_behind earlier tree line w (answers ++ [])
with_all earlier tree line w answers = ap (mean_behind earlier tree line w) (sym (append-nil answers))

-- the steps of a run
pub stands_on : (m n : PlainMachine) (counted : ℕ) → Moves m.interpreter (still_to_come m) counted n.interpreter (still_to_come n) → StandsOn m counted [] [] n
stands_on m n counted moves tree line w earlier answers count taken stands = record {
  asked = stands.asked;
  comes = λ further.
      ap (λ (list : List PlainAnswer). mean_behind earlier tree line w (list ++ further)) (append-nil answers)
      ∙ stands.comes further ∙ moves.same stands.asked count taken further
      ∙ ap (λ (lines : List (List ℕ)). closed (still_to_come n (state_at n.interpreter stands.asked (count + counted) lines further))) (sym (append-nil taken));
}

-- a run that comes to the end of the line
pub comes_to_end : (m : PlainMachine) (n : PlainInterpreter) (counted : ℕ) (stage : PlainStage) → Moves m.interpreter (still_to_come m) counted n (λ s. gives goes_on s) → ComesTo m counted (record { interpreter = n; stage = stage }) (λ s. gives tt s)
comes_to_end m n counted stage moves tree line w earlier answers count taken stands =
    (stands.asked, with_all earlier tree line w answers ∙ stands.comes [] ∙ moves.same stands.asked count taken [])

-- an act that is open is asked where no answer is left
asked_there : (stage : PlainStage) (ws : List PlainWaiting) (n : PlainInterpreter) (asked : List Act) (count : ℕ) (taken : List (List ℕ)) (act : Act) → IsOpenIn n.workspace stage act
    → closed (stage_to_come stage ws (state_at n asked count taken [])) ≡ asks act (state_at n asked count taken [])
asked_there idle ws n asked count taken act is = absurd is
asked_there (begins tree) ws n asked count taken act is = absurd is
asked_there (is_open for_this caller) ws n asked count taken act is = ap (λ (a : Act). asks a (state_at n asked count taken [])) is
asked_there (has_answer answer for_this caller) ws n asked count taken act is = absurd is
asked_there lost ws n asked count taken act is = absurd is

-- a run that comes to an open act
pub comes_to_act : (m n : PlainMachine) (counted : ℕ) (act : Act) → Moves m.interpreter (still_to_come m) counted n.interpreter (still_to_come n) → IsOpenIn n.interpreter.workspace n.stage act → ComesTo m counted n (λ s. asks act s)
comes_to_act m n counted act moves is tree line w earlier answers count taken stands = (
  stands.asked,
  with_all earlier tree line w answers ∙ stands.comes [] ∙ moves.same stands.asked count taken []
      ∙ asked_there n.stage n.interpreter.stack n.interpreter stands.asked (count + counted) taken act is,
)

-- a run that comes to a report, whose lines are printed then
pub comes_to_report : (m : PlainMachine) (n : PlainInterpreter) (counted : ℕ) (report : Report) → Moves m.interpreter (still_to_come m) counted n (λ s. refuses report s) → ComesTo m counted (machine_after report n) (λ s. refuses report (record s { here = here n }))
comes_to_report m n counted report moves tree line w earlier answers count taken stands = (
  stands.asked,
  with_all earlier tree line w answers ∙ stands.comes [] ∙ moves.same stands.asked count taken []
      ∙ ap (λ (lines : List (List ℕ)). refuses report (record (state_at (ended_by report n) stands.asked (count + counted) taken []) { printed = lines; here = here n }))
      (append_assoc taken n.output (report_lines report (here n))),
)

-- an answer to the open act
pub stands_with_answer : (m : PlainMachine) (for_this : PlainActPurpose) (caller : PlainCaller) (answer : PlainAnswer) → m.stage ≡ is_open for_this caller → StandsOn m 0 (answer ∷ []) [] (record m { stage = has_answer answer for_this caller })
stands_with_answer m for_this caller answer waits tree line w earlier answers count taken stands =
    let n : PlainMachine = record m { stage = has_answer answer for_this caller } in
    let asked : List Act = stands.asked ++ act_for_purpose for_this m.interpreter.workspace ∷ [] in
    record {
      asked = asked;
      comes = λ further.
          let e : count ≡ count + 0 = omega arith in
          ap (mean_behind earlier tree line w) (append_assoc answers (answer ∷ []) further)
          ∙ stands.comes (answer ∷ further)
          ∙ ap (λ (stage : PlainStage). closed (stage_to_come stage m.interpreter.stack (state_at m.interpreter stands.asked count taken (answer ∷ further)))) waits
          ∙ ap (λ (c : ℕ). closed (still_to_come n (state_at m.interpreter asked c taken further))) e
          ∙ ap (λ (lines : List (List ℕ)). closed (still_to_come n (state_at m.interpreter asked (count + 0) lines further))) (sym (append-nil taken));
    }

-- where a line may begin so many statements, it is what it is with no bound
bounded : (most : ℕ) → RunsAgree most (run_below most) ran
bounded most task s few = sym (enough (suc s.statements) most (omega (arith, few)) task s (omega arith))

unbounded : (tree : LineTree) (s : State) → begun (λ t. line_outcome (run_below s.statements) immediate tree t) s ≡ begun (line_outcome ran immediate tree) s
unbounded tree s =
    begun_agrees s.statements (line_outcome (run_below s.statements) immediate tree) (line_outcome ran immediate tree)
    (line_agrees s.statements (run_below s.statements) ran (runs s.statements) (bounded s.statements) immediate tree) s.statements s (omega arith)

-- a line that is to begin
pub stands_at_its_beginning : (m : PlainMachine) (line : List ℕ) (tree : PlainTree) → m.interpreter.stack ≡ [] → MachineStands (machine_before line tree m) (line_tree_of tree) line m.interpreter.workspace m.interpreter.output [] 0 []
stands_at_its_beginning m line tree none =
    let n : PlainMachine = machine_before line tree m in
    let first : State → Outcome Next = λ s. begun (line_outcome ran immediate (line_tree_of tree)) s in
    let from : List PlainWaiting → List PlainAnswer → State = λ ws further. state_at (record n.interpreter { stack = ws }) [] 0 [] further in
    record {
      asked = [];
      comes = λ further.
          ap closed (unbounded (line_tree_of tree) (from [] further))
          ∙ ap closed (sym (then_nothing (first (from [] further))))
          ∙ ap (λ (ws : List PlainWaiting). closed (and_then (first (from ws further)) (λ next t. behind ws next t))) (sym none);
    }
