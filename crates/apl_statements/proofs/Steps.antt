-- A step of the stack changes nothing of what is still to come.
use Rattle.std.proofs.Common.{◌≡◌, ℕ, Bool, true, List, [], ◌∷◌, refl, sym, ap, ◌∙◌}
use Rattle.std.specs.Prelude.{Option, Some, None, if◌then◌else◌}
use Rattle.apl_arrays.specs.declared.report.Report.TheVariants.{Syntax}
use Rattle.apl_arrays.specs.Array.{PlainArray}
use Rattle.apl_execute.specs.Text.{text_of}
use Rattle.apl_workspace.specs.Function.{PlainFunction}
use Rattle.apl_workspace.specs.Workspace.{look}
use Rattle.apl_workspace.specs.declared.args.Args.{Args}
use Rattle.apl_workspace.specs.declared.meaning.Meaning.{Meaning}
use Rattle.apl_workspace.specs.declared.meaning.Meaning.TheVariants as meaning
use Rattle.apl_meaning.specs.Printing.{function_line_shown}
use Rattle.line_trees.specs.Nodes.{PlainNode}
use Rattle.line_trees.specs.Trees.{Expr, placed, branch, whole, execute}
use Rattle.apl_meaning.specs.State.{State, Outcome, gives, refuses, asks, and_then, outcome_of}
use Rattle.apl_meaning.specs.Tasks.{Next, Place, in_function, begun, lines_from, text_at, following, line_numbered}
use Rattle.apl_meaning.specs.Calls.{call, call_by, called, entering, leaving, takes}
use Rattle.apl_meaning.specs.Expressions.{Found, evaluated, needed_value}
use Rattle.apl_meaning.specs.Nodes.{Values, leaving_values, ready, with_found, step_by, after_nodes, found_in}
use Rattle.apl_meaning.specs.Statements.{branch_to, is_silent, place_of_text, shown, statement_outcome, text_outcome}
use Rattle.apl_meaning.specs.Meaning.{function_line, ran, standing_at}
use Rattle.apl_meaning.proofs.NodeLaw.{nodes_are_trees}
use Rattle.apl_meaning.proofs.Ran.{ran_lines}
use Rattle.apl_statements.specs.Stack.{PlainPurpose, branches, prints, executes, PlainEvaluation, PlainCaller, PlainWaiting, resumed, after_step, at_line, begun_at, calling, carried_on, put_to, rest_of_statement, behind, onward, onward_lines}

-- one part after another, grouped either way
pub grouped : {A B C : Type 0} (o : Outcome A) (f : A → State → Outcome B) (g : B → State → Outcome C) → and_then (and_then o f) g ≡ and_then o (λ v s. and_then (f v s) g)
grouped (gives v t) f g = refl
grouped (refuses r t) f g = refl
grouped (asks a t) f g = refl

pub then_same : {A B : Type 0} (o : Outcome A) (g k : A → State → Outcome B) → ((v : A) (t : State) → g v t ≡ k v t) → and_then o g ≡ and_then o k
then_same (gives v t) g k h = h v t
then_same (refuses r t) g k h = refl
then_same (asks a t) g k h = refl

-- the next node makes its step
pub node_steps : (e : PlainEvaluation) (n : PlainNode) (nodes : List PlainNode) (ws : List PlainWaiting) (s : State) → e.nodes ≡ n ∷ nodes
    → onward e ws s ≡ and_then (step_by ran n e.values s) (λ values t. onward (after_step e nodes values) ws t)
node_steps e n nodes ws s is =
    let put : Values → State → Outcome Next = λ values t. put_to e.purpose e.place (found_in values) t in
    let under : Next → State → Outcome Next = λ next t. behind ws next t in
    ap (λ (left : List PlainNode). and_then (and_then (after_nodes ran left e.values s) put) under) is
    ∙ ap (λ (o : Outcome Next). and_then o under) (grouped (step_by ran n e.values s) (λ values t. after_nodes ran nodes values t) put)
    ∙ grouped (step_by ran n e.values s) (λ values t. and_then (after_nodes ran nodes values t) put) under

-- the last line of a function was left: its caller goes on with its result
pub lines_end : (function : PlainFunction) (number : ℕ) (caller : PlainCaller) (ws : List PlainWaiting) (s : State) → line_numbered function.lines number ≡ None
    → onward_lines function number caller ws s ≡ and_then (leaving function caller.here s) (λ found t. onward (resumed found caller) ws t)
lines_end function number caller ws s none =
    ap (λ (o : Outcome Next). and_then o (λ _ t. and_then (leaving function caller.here t) (λ found t. onward (resumed found caller) ws t)))
    (ran_lines function number s ∙ ap (λ (line : Option (List ℕ)). function_line ran function number line s) none)

-- where the first node begins, what is still to come is what the expression gives, put to its purpose
begins_there : (place : Place) (purpose : PlainPurpose) (e : Expr) (s : State) → rest_of_statement (begun_at place purpose e) s ≡ and_then (evaluated ran e s) (λ found t. put_to purpose place found t)
begins_there place purpose e s =
    sym (grouped (after_nodes ran (placed [] e).0 (ready []) s) (λ values t. gives (found_in values) t) (λ found t. put_to purpose place found t))
    ∙ ap (λ (o : Outcome Found). and_then o (λ found t. put_to purpose place found t)) (nodes_are_trees ran e s)

-- a branch, a value or an executed text under evaluation is what the meaning says
pub branch_begins : (place : Place) (e : Expr) (s : State) → rest_of_statement (begun_at place branches e) s ≡ statement_outcome ran place (branch e) s
branch_begins place e s = begins_there place branches e s ∙ sym (grouped (evaluated ran e s) needed_value (λ target t. outcome_of (branch_to target) t))

pub whole_begins : (place : Place) (e : Expr) (s : State) → rest_of_statement (begun_at place (prints (is_silent e)) e) s ≡ statement_outcome ran place (whole e) s
whole_begins place e s = begins_there place (prints (is_silent e)) e s

pub execute_begins : (place : Place) (e : Expr) (s : State) → rest_of_statement (begun_at place executes e) s ≡ statement_outcome ran place (execute e) s
execute_begins place e s =
    begins_there place executes e s ∙ sym (grouped (evaluated ran e s) needed_value (λ v t. and_then (outcome_of (text_of v) t) (λ text u. ran (text_at (place_of_text place) text) u)))

-- a call enters a function, and its first line is next
pub call_enters : (caller : PlainCaller) (ws : List PlainWaiting) (function : PlainFunction) (name : List ℕ) (args : Args) (s : State) → look s.workspace name ≡ meaning.Function function → takes function.header args ≡ true → caller.here ≡ s.here
    → carried_on (call ran name args s) caller ws ≡ and_then (entering name args s) (λ _ t. onward_lines function 1 caller ws t)
call_enters caller ws function name args s is fits stood =
    let under : Found → State → Outcome Next = λ found t. onward (resumed found caller) ws t in
    let lines : State → Outcome Next = λ t. ran (lines_from function 1) t in
    ap (λ (m : Meaning). and_then (call_by ran m name args s) under) is
    ∙ ap (λ (b : Bool). and_then (if b then called ran function name args s else refuses Syntax s) under) fits
    ∙ grouped (entering name args s) (λ _ t. and_then (lines t) (λ _ u. leaving function s.here u)) under
    ∙ then_same (entering name args s) (λ _ t. and_then (and_then (lines t) (λ _ u. leaving function s.here u)) under) (λ _ t. onward_lines function 1 caller ws t) (λ _ t.
    grouped (lines t) (λ _ u. leaving function s.here u) under
    ∙ ap (λ (shown : List ℕ). and_then (lines t) (λ _ u. and_then (leaving function shown u) under)) (sym stood))

-- what a node leaves on the stack is what the statement goes on with
pub node_gives : (e : PlainEvaluation) (nodes : List PlainNode) (values : List PlainArray) (shown : List ℕ) (ws : List PlainWaiting) (found : Outcome Found)
    → and_then (leaving_values values found) (λ v t. onward (after_step e nodes v) ws t) ≡ carried_on found (calling e nodes values shown) ws
node_gives e nodes values shown ws found = grouped found (λ v t. gives (with_found v values) t) (λ v t. onward (after_step e nodes v) ws t)

-- a line of a function is begun, and what is under it follows
pub line_begins : (function : PlainFunction) (number : ℕ) (line : List ℕ) (caller : PlainCaller) (ws : List PlainWaiting) (s : State) → line_numbered function.lines number ≡ Some line
    → onward_lines function number caller ws s ≡ and_then (begun (text_outcome ran in_function line) (standing_at (function_line_shown function.header.name number line) s)) (λ next t. behind (at_line function number caller ∷ ws) next t)
line_begins function number line caller ws s is =
    let under : Next → State → Outcome Next = λ _ t. and_then (leaving function caller.here t) (λ found u. onward (resumed found caller) ws u) in
    ap (λ (o : Outcome Next). and_then o under) (ran_lines function number s ∙ ap (λ (found : Option (List ℕ)). function_line ran function number found s) is)
    ∙ grouped (begun (text_outcome ran in_function line) (standing_at (function_line_shown function.header.name number line) s)) (λ next t. ran (lines_from function (following number next)) t) under
