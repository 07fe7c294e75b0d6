-- Statements that are followed in their places.
use Rattle.std.proofs.Common.{◌≡◌, ◌≢◌, ◌≤◌, ◌-◌, ℕ, Bool, true, false, List, [], ◌∷◌, length, map, not, refl, sym, ap, subst, ◌∙◌, ◌&&◌, ◌||◌, arith}
use Rattle.std.specs.Prelude.{Option, Some, None, Result, Ok, Err, OnOk, is_some, option_map, reverse, slice_get}
use Rattle.std.specs.Arc.{arc_value}
use Rattle.std.proofs.lemmas.List.{length-map}
use Rattle.std.proofs.lemmas.Option.{slice_get-map}
use Rattle.apl_arrays.specs.Array.{PlainArray}
use Rattle.apl_arrays.specs.declared.report.Fail.{Fail}
use Rattle.apl_workspace.specs.Workspace.{PlainWorkspace}
use Rattle.line_trees.specs.Trees.{Statement, nothing, branch, whole, execute, LineTree, line_tree_of}
use Rattle.apl_meaning.specs.State.{State, Outcome, and_then, outcome_of}
use Rattle.apl_meaning.specs.Tasks.{Next, goes_on, in_function}
use Rattle.apl_meaning.specs.Meaning.{ran}
use Rattle.apl_meaning.specs.Expressions.{Found}
use Rattle.apl_meaning.specs.Nodes.{found_in, ready}
use Rattle.apl_meaning.specs.Statements.{branch_to, is_branch, is_misplaced, line_outcome, statement_outcome}
use Rattle.apl_values.specs.declared.reading.LineReading.{LineReading}
use Rattle.apl_values.specs.declared.values.StackValue.{StackValue}
use Rattle.apl_values.specs.Places.{plain_place}
use Rattle.apl_values.specs.Parts.{reading_statement, reading_tree}
use Rattle.apl_values.specs.Values.{stack_value}
use Rattle.apl_values.proofs.Found.{last_first}
use Rattle.apl_statements.specs.declared.evaluation.Evaluation.{Evaluation}
use Rattle.apl_statements.specs.declared.evaluation.Purpose.{Purpose}
use Rattle.apl_statements.specs.declared.evaluation.Purpose.TheVariants as purpose
use Rattle.apl_statements.specs.Evaluating.{evaluation_of, plain_purpose, purpose_in, values_where}
use Rattle.apl_statements.specs.Holding.{parts_of, stack_values}
use Rattle.apl_statements.specs.Interpreter.{PlainInterpreter, state_at}
use Rattle.apl_statements.specs.Moves.{Coming, Comes, Moves, statement_leads, value_put}
use Rattle.apl_statements.specs.Stack.{PlainPurpose, behind, branches, onward, put_to}
use Rattle.apl_statements.proofs.Moving.{stays}
use Rattle.apl_statements.proofs.Same.{at_once}
use Rattle.apl_calls.specs.WentOn.{gone_on}
use Rattle.apl_calls.proofs.Begins.{line_may_stand}
use Rattle.apl_calls.proofs.Falling.{ends_there}

-- any line may stand in a function
pub stands_in_function : (line : LineTree) → is_misplaced in_function line ≡ false
stands_in_function line = by (is_some line.label) (is_branch line.statement)
  where
    by : (a b : Bool) → ((a && not true) || (b && not true)) ≡ false
    by true true = refl
    by true false = refl
    by false true = refl
    by false false = refl

-- a silent statement that is over goes on with the next line
pub silent_leads : (m : PlainInterpreter) (e : Evaluation) (s : State) → e.purpose ≡ purpose.Prints true → value_put m e (plain_purpose e.purpose) s ≡ behind m.stack goes_on s
silent_leads m e s put = ap (λ (p : Purpose). value_put m e (plain_purpose p) s) put

-- so does an empty one
nothing_leads : (m : PlainInterpreter) (st : Statement) (s : State) → purpose_in st ≡ None → and_then (statement_outcome ran in_function st s) (λ next t. behind m.stack next t) ≡ behind m.stack goes_on s
nothing_leads m nothing s none = refl
nothing_leads m (branch e) s none = absurd (cc)
nothing_leads m (whole e) s none = absurd (cc)
nothing_leads m (execute e) s none = absurd (cc)

pub nothing_begins : (m : PlainInterpreter) (reading : LineReading) (e : Evaluation) → e.purpose ≡ purpose.Prints true → length (parts_of e) ≤ e.at → purpose_in (reading_statement reading) ≡ None
    → Moves m (statement_leads m (λ s. line_outcome ran in_function (line_tree_of (reading_tree reading)) s)) 0 m (λ s. onward (evaluation_of m.workspace e) m.stack s)
nothing_begins m reading e put all none =
    let line : LineTree = line_tree_of (reading_tree reading) in
    at_once m (statement_leads m (λ s. line_outcome ran in_function line s)) (λ s. onward (evaluation_of m.workspace e) m.stack s) (λ asked count taken further.
    let s : State = state_at m asked count taken further in
    line_may_stand m in_function line (is_misplaced in_function line) (stands_in_function line) s
    ∙ nothing_leads m line.statement s none
    ∙ sym (ends_there m e s all ∙ silent_leads m e s put))

-- a statement that was followed, or was left as it was
pub followed : (m n : PlainInterpreter) (e f : Evaluation) (r : Result Bool Fail) → (r ≡ Ok false → (n ≡ m) × (f ≡ e)) → (r ≢ Ok false → Comes m (λ s. onward (evaluation_of m.workspace e) m.stack s) 0 n (gone_on f r)) → Comes m (λ s. onward (evaluation_of m.workspace e) m.stack s) 0 n (gone_on f r)
followed m n e f (Ok true) left on = on (λ no. let wrong : true ≡ false = cc in absurd cc)
followed m n e f (Ok false) left on =
    let same = left refl in
    subst (λ (x : PlainInterpreter). Moves m (λ s. onward (evaluation_of m.workspace e) m.stack s) 0 x (λ s. onward (evaluation_of x.workspace f) x.stack s)) (sym same.0)
    (subst (λ (x : Evaluation). Moves m (λ s. onward (evaluation_of m.workspace e) m.stack s) 0 m (λ s. onward (evaluation_of m.workspace x) m.stack s)) (sym same.1)
    (stays m (λ s. onward (evaluation_of m.workspace e) m.stack s)))
followed m n e f (Err why) left on = on (λ no. absurd cc)
