-- Two ways to run tasks that agree where fewer than so many statements are left agree on all that is evaluated there.
use Rattle.std.proofs.Common.{◌≡◌, ℕ, zero, suc, ◌<◌, ◌≤◌, Bool, true, false, List, ◌∷◌, refl, ap, ◌∙◌, arith}
use Rattle.std.specs.Prelude.{ℤ, Option, Some, None, Ok, Err, if◌then◌else◌}
use Rattle.apl_arrays.specs.Array.{PlainArray}
use Rattle.apl_arrays.specs.declared.report.Report.TheVariants.{Syntax}
use Rattle.apl_execute.specs.Text.{text_of}
use Rattle.apl_selection.specs.Indexing.{selection_of}
use Rattle.apl_workspace.specs.Function.{PlainFunction}
use Rattle.apl_workspace.specs.Workspace.{look}
use Rattle.apl_workspace.specs.declared.args.Args.{Args}
use Rattle.apl_workspace.specs.declared.meaning.Meaning.{Meaning}
use Rattle.apl_workspace.specs.declared.meaning.Meaning.TheVariants as meaning
use Rattle.line_trees.specs.declared.tree.Fun.{Fun}
use Rattle.line_trees.specs.declared.tree.Fun.TheVariants as fun
use Rattle.line_trees.specs.Trees.{Expr, constant, value, niladic, paren, indexed, monadic, monadic_along, dyadic, dyadic_along, assign, assign_at, Subscripts, no_more, omitted, given as given_subscript, Statement, nothing, branch, whole, execute, LineTree}
use Rattle.apl_meaning.specs.State.{State, Outcome, gives, refuses, asks, and_then, state_of, outcome_of}
use Rattle.apl_meaning.specs.Verbs.{named_axis}
use Rattle.apl_meaning.specs.Variables.{assignment, items_assignment}
use Rattle.apl_meaning.specs.Tasks.{Next, goes_on, Place, in_function, Task, lines_from, text_at, Run, begun_by, following, line_numbered}
use Rattle.apl_meaning.specs.Calls.{entering, leaving, call, call_by, called, takes}
use Rattle.apl_meaning.specs.Expressions.{Found, needed, valued, performed, performed_along, evaluated, evaluated_subscripts}
use Rattle.apl_meaning.specs.Reading.{Read, read_with}
use Rattle.apl_meaning.specs.Statements.{branch_to, is_misplaced, is_silent, line_by, line_outcome, place_of_text, read_outcome, shown, statement_outcome, text_outcome}
use Rattle.apl_meaning.specs.Printing.{function_line_shown}
use Rattle.apl_meaning.specs.Meaning.{function_line, run_below, standing_at}
use Rattle.apl_meaning.proofs.Steady.{IsSteady, resulting}
use Rattle.apl_meaning.proofs.Trees.{IsSteadyRun, enters, evaluates, evaluates_all, needs}
use Rattle.apl_meaning.proofs.Lines.{runs, texts}

-- two parts agree where fewer than so many statements are left
abbrev pub Agree : {T : Type 0} → ℕ → (State → Outcome T) → (State → Outcome T) → Type 0
Agree below f g = (s : State) → s.statements < below → f s ≡ g s

-- two ways to run tasks agree there
abbrev pub RunsAgree : ℕ → Run → Run → Type 0
RunsAgree below run other = (task : Task) → Agree below (run task) (other task)

joined : {A B : Type 0} (below : ℕ) (g k : A → State → Outcome B) → ((v : A) → Agree below (g v) (k v)) → (o : Outcome A) → (state_of o).statements < below → and_then o g ≡ and_then o k
joined below g k h (gives v t) few = h v t few
joined below g k h (refuses r t) few = refl
joined below g k h (asks a t) few = refl

-- parts one after another agree where each does
both_agree : {A B : Type 0} {below : ℕ} {f e : State → Outcome A} {g k : A → State → Outcome B} → IsSteady f → Agree below f e → ((v : A) → Agree below (g v) (k v))
    → Agree below (λ (s : State). and_then (f s) g) (λ (s : State). and_then (e s) k)
both_agree {A} {B} {below} {f} {e} {g} {k} steady first second s few =
    joined below g k second (f s) (let after = (steady.after s).statements in omega (arith, after, few)) ∙ ap (λ (o : Outcome A). and_then o k) (first s few)

same : {T : Type 0} {below : ℕ} (f : State → Outcome T) → Agree below f f
same f s few = refl

-- ---- calls

called_agrees : (below : ℕ) (run other : Run) → RunsAgree below run other → (function : PlainFunction) (name : List ℕ) (args : Args) → Agree below (called run function name args) (called other function name args)
called_agrees below run other h function name args s few =
    both_agree {f = entering name args} {g = λ _ t. and_then (run (lines_from function 1) t) (λ _ t. leaving function s.here t)} {k = λ _ t. and_then (other (lines_from function 1) t) (λ _ t. leaving function s.here t)} (enters name args) (same (entering name args))
    (λ _ t below_t. ap (λ (o : Outcome Next). and_then o (λ _ u. leaving function s.here u)) (h (lines_from function 1) t below_t)) s few

call_agrees : (below : ℕ) (run other : Run) → RunsAgree below run other → (m : Meaning) (name : List ℕ) (args : Args) → Agree below (call_by run m name args) (call_by other m name args)
call_agrees below run other h meaning.Nothing name args s few = refl
call_agrees below run other h (meaning.Value v) name args s few = refl
call_agrees below run other h (meaning.Function function) name args s few =
    ap (λ (o : Outcome (Option PlainArray)). if takes function.header args then o else refuses Syntax s) (called_agrees below run other h function name args s few)
call_agrees below run other h (meaning.Label line) name args s few = refl
call_agrees below run other h (meaning.Shared copy) name args s few = refl

calls_agree : (below : ℕ) (run other : Run) → RunsAgree below run other → (name : List ℕ) (args : Args) → Agree below (call run name args) (call other name args)
calls_agree below run other h name args s few = call_agrees below run other h (look s.workspace name) name args s few

performed_agrees : (below : ℕ) (run other : Run) → RunsAgree below run other → (f : Fun) (left : Found) (right : PlainArray) (axis : Option ℤ) → Agree below (performed run f left right axis) (performed other f left right axis)
performed_agrees below run other h (fun.Verb f) left right axis s few = refl
performed_agrees below run other h (fun.Defined name) left right axis s few = calls_agree below run other h name (record { left = left; right = Some right }) s few
performed_agrees below run other h (fun.System name) left right axis s few = refl

along_agrees : (below : ℕ) (run other : Run) → RunsAgree below run other → (f : Fun) (left : Found) (axis right : PlainArray) → Agree below (performed_along run f left axis right) (performed_along other f left axis right)
along_agrees below run other h f left axis right =
    both_agree (resulting (named_axis axis)) (same (outcome_of (named_axis axis))) (λ k. performed_agrees below run other h f left right (Some k))

-- ---- expressions

needed_agrees : {below : ℕ} {f g : State → Outcome Found} → Agree below f g → Agree below (λ (s : State). needed (f s)) (λ (s : State). needed (g s))
needed_agrees h s few = ap needed (h s few)

mutual
  pub values_agree : (below : ℕ) (run other : Run) → IsSteadyRun run → RunsAgree below run other → (e : Expr) → Agree below (evaluated run e) (evaluated other e)
  values_agree below run other steady h (constant items) = same (evaluated run (constant items))
  values_agree below run other steady h (value name) = same (evaluated run (value name))
  values_agree below run other steady h (niladic name) = calls_agree below run other h name (record { left = None; right = None })
  values_agree below run other steady h (paren e) = values_agree below run other steady h e
  values_agree below run other steady h (indexed e subs) =
      both_agree (evaluates_all run steady subs) (subscripts_agree below run other steady h subs) (λ subs.
      both_agree (needs (evaluates run steady e)) (needed_agrees (values_agree below run other steady h e)) (λ array. same (λ s. valued (outcome_of (selection_of array subs) s))))
  values_agree below run other steady h (monadic f right) =
      both_agree (needs (evaluates run steady right)) (needed_agrees (values_agree below run other steady h right)) (λ right. performed_agrees below run other h f None right None)
  values_agree below run other steady h (monadic_along f axis right) =
      both_agree (needs (evaluates run steady right)) (needed_agrees (values_agree below run other steady h right)) (λ right.
      both_agree (needs (evaluates run steady axis)) (needed_agrees (values_agree below run other steady h axis)) (λ axis. along_agrees below run other h f None axis right))
  values_agree below run other steady h (dyadic f left right) =
      both_agree (needs (evaluates run steady right)) (needed_agrees (values_agree below run other steady h right)) (λ right.
      both_agree (needs (evaluates run steady left)) (needed_agrees (values_agree below run other steady h left)) (λ left. performed_agrees below run other h f (Some left) right None))
  values_agree below run other steady h (dyadic_along f left axis right) =
      both_agree (needs (evaluates run steady right)) (needed_agrees (values_agree below run other steady h right)) (λ right.
      both_agree (needs (evaluates run steady axis)) (needed_agrees (values_agree below run other steady h axis)) (λ axis.
      both_agree (needs (evaluates run steady left)) (needed_agrees (values_agree below run other steady h left)) (λ left. along_agrees below run other h f (Some left) axis right)))
  values_agree below run other steady h (assign name right) =
      both_agree (needs (evaluates run steady right)) (needed_agrees (values_agree below run other steady h right)) (λ right.
      same (λ s. and_then (assignment name right s) (λ _ t. gives (Some right) t)))
  values_agree below run other steady h (assign_at name subs right) =
      both_agree (needs (evaluates run steady right)) (needed_agrees (values_agree below run other steady h right)) (λ right.
      both_agree (evaluates_all run steady subs) (subscripts_agree below run other steady h subs) (λ subs.
      same (λ s. and_then (items_assignment name subs right s) (λ _ t. gives (Some right) t))))

  pub subscripts_agree : (below : ℕ) (run other : Run) → IsSteadyRun run → RunsAgree below run other → (subs : Subscripts) → Agree below (evaluated_subscripts run subs) (evaluated_subscripts other subs)
  subscripts_agree below run other steady h no_more = same (evaluated_subscripts run no_more)
  subscripts_agree below run other steady h (omitted more) =
      both_agree (evaluates_all run steady more) (subscripts_agree below run other steady h more) (λ others. same (λ s. gives (None ∷ others) s))
  subscripts_agree below run other steady h (given_subscript e more) =
      both_agree (evaluates_all run steady more) (subscripts_agree below run other steady h more) (λ others.
      both_agree (needs (evaluates run steady e)) (needed_agrees (values_agree below run other steady h e)) (λ sub. same (λ s. gives (Some sub ∷ others) s)))

-- ---- statements

statements_agree : (below : ℕ) (run other : Run) → IsSteadyRun run → RunsAgree below run other → (place : Place) (statement : Statement) → Agree below (statement_outcome run place statement) (statement_outcome other place statement)
statements_agree below run other steady h place nothing = same (statement_outcome run place nothing)
statements_agree below run other steady h place (branch e) =
    both_agree (needs (evaluates run steady e)) (needed_agrees (values_agree below run other steady h e)) (λ target. same (λ s. outcome_of (branch_to target) s))
statements_agree below run other steady h place (whole e) =
    both_agree (evaluates run steady e) (values_agree below run other steady h e) (λ found. same (λ s. and_then (shown (is_silent e) found s) (λ _ t. gives goes_on t)))
statements_agree below run other steady h place (execute e) =
    both_agree (needs (evaluates run steady e)) (needed_agrees (values_agree below run other steady h e)) (λ v.
    both_agree (resulting (text_of v)) (same (outcome_of (text_of v))) (λ text. h (text_at (place_of_text place) text)))

line_agrees_by : (b : Bool) (below : ℕ) (run other : Run) → IsSteadyRun run → RunsAgree below run other → (place : Place) (line : LineTree) → Agree below (line_by b run place line) (line_by b other place line)
line_agrees_by true below run other steady h place line s few = refl
line_agrees_by false below run other steady h place line s few = statements_agree below run other steady h place line.statement s few

pub line_agrees : (below : ℕ) (run other : Run) → IsSteadyRun run → RunsAgree below run other → (place : Place) (line : LineTree) → Agree below (line_outcome run place line) (line_outcome other place line)
line_agrees below run other steady h place line s few = line_agrees_by (is_misplaced place line) below run other steady h place line s few

read_agrees : (read : Read) (below : ℕ) (run other : Run) → IsSteadyRun run → RunsAgree below run other → (place : Place) → Agree below (read_outcome run place read) (read_outcome other place read)
read_agrees (Ok line) below run other steady h place s few = line_agrees below run other steady h place line s few
read_agrees (Err report) below run other steady h place s few = refl

pub texts_agree : (below : ℕ) (run other : Run) → IsSteadyRun run → RunsAgree below run other → (place : Place) (text : List ℕ) → Agree below (text_outcome run place text) (text_outcome other place text)
texts_agree below run other steady h place text s few = read_agrees (read_with s.workspace text) below run other steady h place s few

-- ---- what is begun

pub begun_agrees : {T : Type 0} (below : ℕ) (f g : State → Outcome T) → Agree below f g → (n : ℕ) (s : State) → n < suc below → begun_by n f s ≡ begun_by n g s
begun_agrees below f g h zero s few = refl
begun_agrees below f g h (suc left) s few = h (record s { statements = left }) (omega (arith, few))

line_begun_agrees : (below : ℕ) (run other : Run) → IsSteadyRun run → RunsAgree below run other → (function : PlainFunction) (number : ℕ) (line : List ℕ) (n : ℕ) (s : State) → n < suc below
    → and_then (begun_by n (text_outcome run in_function line) s) (λ next t. run (lines_from function (following number next)) t) ≡ and_then (begun_by n (text_outcome other in_function line) s) (λ next t. other (lines_from function (following number next)) t)
line_begun_agrees below run other steady h function number line zero s few = refl
line_begun_agrees below run other steady h function number line (suc left) s few =
    both_agree (texts run steady in_function line) (texts_agree below run other steady h in_function line) (λ next. h (lines_from function (following number next))) (record s { statements = left }) (omega (arith, few))

pub function_agrees : (below : ℕ) (run other : Run) → IsSteadyRun run → RunsAgree below run other → (function : PlainFunction) (number : ℕ) (line : Option (List ℕ)) → Agree (suc below) (function_line run function number line) (function_line other function number line)
function_agrees below run other steady h function number None s few = refl
function_agrees below run other steady h function number (Some line) s few = line_begun_agrees below run other steady h function number line s.statements (standing_at (function_line_shown function.header.name number line) s) few

-- with enough of them, how many statements may be begun changes nothing
pub enough : (most more : ℕ) → most ≤ more → RunsAgree most (run_below most) (run_below more)
unfolding run_below
enough zero more le task s few = absurd (let none : s.statements < 0 = few in omega arith)
enough (suc most) zero le task s few = absurd (omega (arith, le))
enough (suc most) (suc more) le (lines_from function number) s few = function_agrees most (run_below most) (run_below more) (runs most) (enough most more (omega (arith, le))) function number (line_numbered function.lines number) s few
enough (suc most) (suc more) le (text_at place text) s few =
    begun_agrees most (text_outcome (run_below most) place text) (text_outcome (run_below more) place text) (texts_agree most (run_below most) (run_below more) (runs most) (enough most more (omega (arith, le))) place text) s.statements s few
