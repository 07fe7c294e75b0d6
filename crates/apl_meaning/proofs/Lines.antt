-- Lines are steady, and so is what is begun under them.
use Rattle.std.proofs.Common.{◌≡◌, ℕ, zero, suc, ◌+◌, Bool, true, false, List, [], ◌∷◌, ◌++◌, refl, sym, ap, ◌∙◌, subst, arith, append-nil, length}
use Rattle.std.specs.Prelude.{Option, Some, None, Ok, Err, nat_le}
use Rattle.apl_arrays.specs.declared.report.Report.TheVariants.{Interrupt, Syntax}
use Rattle.apl_display.specs.Display.{display_lines}
use Rattle.apl_execute.specs.Text.{text_of}
use Rattle.apl_workspace.specs.Function.{PlainFunction}
use Rattle.apl_workspace.specs.Limits.{most_printed}
use Rattle.apl_workspace.specs.Workspace.{PlainWorkspace, with_printed}
use Rattle.line_trees.specs.Trees.{Statement, nothing, branch, whole, execute, LineTree}
use Rattle.sv_events.specs.Answer.{PlainAnswer}
use Rattle.apl_meaning.specs.State.{State, Outcome, gives, refuses, asks, state_of}
use Rattle.apl_meaning.specs.Tasks.{Next, goes_on, Place, immediate, in_function, lines_from, text_at, Run, begun, begun_by, following, line_numbered}
use Rattle.apl_meaning.specs.Expressions.{Found}
use Rattle.apl_meaning.specs.Printing.{line_printed, lines_printed, report_lines}
use Rattle.apl_meaning.specs.Reading.{Read, read_with}
use Rattle.apl_meaning.specs.Statements.{branch_to, is_misplaced, is_silent, line_by, line_outcome, place_of_text, read_outcome, shown, statement_outcome, text_outcome}
use Rattle.apl_meaning.specs.Meaning.{closed, ended_by_report, function_line, mean, run_below, start_of}
use Rattle.apl_meaning.specs.Laws.{with_more, IsOver, and_more, IsAfter, GoesOnIn, Takes}
use Rattle.apl_meaning.proofs.Steady.{IsSteady, as_before, later, itself, quiet, given, refused, resulting, takes_from, by_bool, by_workspace, shown_at, both}
use Rattle.apl_meaning.proofs.Trees.{IsSteadyRun, needs, evaluates}

-- ---- what is printed

pub printing : (line : List ℕ) (w : PlainWorkspace) → IsSteady {T = Unit {0}} (λ (s : State). gives tt (record s { printed = s.printed ++ line ∷ []; workspace = with_printed w (length line) }))
printing line w = quiet (λ s. tt) (λ s more. refl) (λ s. record { lines = line ∷ []; printed = refl; acts = []; asked = sym (append-nil s.asked); applications = omega arith; statements = omega arith }) (λ s. refl) (λ s. refl)

prints : (line : List ℕ) → IsSteady (line_printed line)
prints line = by_workspace (λ w. by_bool (nat_le (w.printed + length line) most_printed) (printing line w) (refused Interrupt))

prints_all : (lines : List (List ℕ)) → IsSteady (lines_printed lines)
prints_all [] = given {T = Unit {0}} tt
prints_all (line ∷ lines) = both (prints line) (λ _. prints_all lines)

shows : (silent : Bool) (found : Found) → IsSteady (shown silent found)
shows true found = given {T = Unit {0}} tt
shows false None = given {T = Unit {0}} tt
shows false (Some v) = prints_all (display_lines v)

-- ---- statements

states : (run : Run) → IsSteadyRun run → (place : Place) (statement : Statement) → IsSteady (statement_outcome run place statement)
states run h place nothing = given goes_on
states run h place (branch e) = both (needs (evaluates run h e)) (λ target. resulting (branch_to target))
states run h place (whole e) = both (evaluates run h e) (λ found. both (shows (is_silent e) found) (λ _. given goes_on))
states run h place (execute e) =
    both (needs (evaluates run h e)) (λ v. both (resulting (text_of v)) (λ text. h (text_at (place_of_text place) text)))

placed_by : (b : Bool) (run : Run) → IsSteadyRun run → (place : Place) (line : LineTree) → IsSteady (line_by b run place line)
placed_by true run h place line = refused Syntax
placed_by false run h place line = states run h place line.statement

pub lines : (run : Run) → IsSteadyRun run → (place : Place) (line : LineTree) → IsSteady (line_outcome run place line)
lines run h place line = placed_by (is_misplaced place line) run h place line

reads : (run : Run) → IsSteadyRun run → (place : Place) (read : Read) → IsSteady (read_outcome run place read)
reads run h place (Ok line) = lines run h place line
reads run h place (Err report) = refused report

pub texts : (run : Run) → IsSteadyRun run → (place : Place) (text : List ℕ) → IsSteady (text_outcome run place text)
texts run h place text = by_workspace (λ w. reads run h place (read_with w text))

-- ---- what is begun

begun_back : {T : Type 0} (next : State → Outcome T) → IsSteady next → (n : ℕ) (s : State) (more : List PlainAnswer) → IsOver (begun_by n next s) → begun_by n next (with_more more s) ≡ and_more more (begun_by n next s)
begun_back next h zero s more over = refl
begun_back next h (suc left) s more over = h.back (record s { statements = left }) more over

begun_after : {T : Type 0} (next : State → Outcome T) → IsSteady next → (n : ℕ) (s : State) → s.statements ≡ n → IsAfter s (state_of (begun_by n next s))
begun_after next h zero s e = itself s
begun_after next h (suc left) s e = later (as_before s (record s { statements = left }) refl refl (omega arith) (omega (arith, e))) (h.after (record s { statements = left }))

begun_further : {T : Type 0} (next : State → Outcome T) → IsSteady next → (n : ℕ) (s : State) (more : List PlainAnswer) → IsAfter (state_of (begun_by n next s)) (state_of (begun_by n next (with_more more s)))
begun_further next h zero s more = as_before s (with_more more s) refl refl (omega arith) (omega arith)
begun_further next h (suc left) s more = h.further (record s { statements = left }) more

begun_takes : {T : Type 0} (next : State → Outcome T) → IsSteady next → (n : ℕ) (s : State) → Takes s (begun_by n next s)
begun_takes {T} next h zero s = (refused {T = T} Interrupt).takes s
begun_takes next h (suc left) s = takes_from (record s { statements = left }) s (next (record s { statements = left })) refl refl (h.takes (record s { statements = left }))

begun_next : {T : Type 0} (next : State → Outcome T) → IsSteady next → (n : ℕ) (s : State) (answer : PlainAnswer) (more : List PlainAnswer) → GoesOnIn (begun_by n next s) (begun_by n next (with_more (answer ∷ more) s))
begun_next next h zero s answer more = tt
begun_next next h (suc left) s answer more = h.next (record s { statements = left }) answer more

pub begins : {T : Type 0} (next : State → Outcome T) → IsSteady next → IsSteady (begun next)
begins next h = record {
  back = λ s more over. begun_back next h s.statements s more over;
  after = λ s. begun_after next h s.statements s refl;
  further = λ s more. begun_further next h s.statements s more;
  takes = λ s. begun_takes next h s.statements s;
  next = λ s answer more. begun_next next h s.statements s answer more;
}

function_lines : (run : Run) → IsSteadyRun run → (function : PlainFunction) (number : ℕ) (line : Option (List ℕ)) → IsSteady (function_line run function number line)
function_lines run h function number None = given goes_on
function_lines run h function number (Some line) =
    both (shown_at _ (begins (text_outcome run in_function line) (texts run h in_function line))) (λ next. h (lines_from function (following number next)))

pub runs : (most : ℕ) → IsSteadyRun (run_below most)
unfolding run_below
runs zero task = refused Interrupt
runs (suc most) (lines_from function number) = function_lines (run_below most) (runs most) function number (line_numbered function.lines number)
runs (suc most) (text_at place text) = begins (text_outcome (run_below most) place text) (texts (run_below most) (runs most) place text)

-- ---- how a line ends

closed_back : (more : List PlainAnswer) (o p : Outcome Next) → (IsOver o → p ≡ and_more more o) → IsOver (closed o) → closed p ≡ and_more more (closed o)
closed_back more (gives next s) p is over = ap closed (is tt)
closed_back more (refuses report s) p is over = ap closed (is tt)
closed_back more (asks act s) p is over = absurd over

closed_after : (o : Outcome Next) → IsAfter (state_of o) (state_of (closed o))
closed_after (gives next s) = itself s
closed_after (refuses report s) = record { lines = report_lines report s.here; printed = refl; acts = []; asked = sym (append-nil s.asked); applications = omega arith; statements = omega arith }
closed_after (asks act s) = itself s

closed_further : (more : List PlainAnswer) (o p : Outcome Next) → (IsOver o → p ≡ and_more more o) → IsAfter (state_of o) (state_of p) → IsAfter (state_of (closed o)) (state_of (closed p))
closed_further more (gives next s) p is h = later h (closed_after p)
closed_further more (refuses report s) p is h =
    subst (λ (x : Outcome Next). IsAfter (ended_by_report (report_lines report s.here) s) (state_of (closed x))) (sym (is tt))
    (as_before (ended_by_report (report_lines report s.here) s) (ended_by_report (report_lines report s.here) (with_more more s)) refl refl (omega arith) (omega arith))
closed_further more (asks act s) p is h = later h (closed_after p)

-- the line itself, before it is closed
line_alone : (tree : LineTree) (left : ℕ) → IsSteady (begun (line_outcome (run_below left) immediate tree))
line_alone tree left = begins (line_outcome (run_below left) immediate tree) (lines (run_below left) (runs left) immediate tree)

-- answers that a line does not take come back
pub rest_comes_back : (tree : LineTree) (line : List ℕ) (w : PlainWorkspace) (answers more : List PlainAnswer) (left : ℕ)
    → IsOver (mean tree line w answers left) → mean tree line w (answers ++ more) left ≡ and_more more (mean tree line w answers left)
rest_comes_back tree line w answers more left over =
    let h = line_alone tree left in
    let s = start_of line w answers left in
    closed_back more (begun (line_outcome (run_below left) immediate tree) s) (begun (line_outcome (run_below left) immediate tree) (with_more more s)) (h.back s more) over

-- what came of a line with fewer answers is the beginning of what comes of it with more
pub comes_first : (tree : LineTree) (line : List ℕ) (w : PlainWorkspace) (answers more : List PlainAnswer) (left : ℕ)
    → IsAfter (state_of (mean tree line w answers left)) (state_of (mean tree line w (answers ++ more) left))
comes_first tree line w answers more left =
    let h = line_alone tree left in
    let s = start_of line w answers left in
    closed_further more (begun (line_outcome (run_below left) immediate tree) s) (begun (line_outcome (run_below left) immediate tree) (with_more more s)) (h.back s more) (h.further s more)

-- ---- the answers that a line takes

closed_takes : (s : State) (o : Outcome Next) → Takes s o → Takes s (closed o)
closed_takes s (gives next t) k = record { taken = k.taken; acts = k.acts; answers = k.answers; asked = k.asked; one_by_one = k.one_by_one; reported = k.reported; in_need = tt }
closed_takes s (refuses report t) k = record { taken = k.taken; acts = k.acts; answers = k.answers; asked = k.asked; one_by_one = k.one_by_one; reported = k.reported; in_need = tt }
closed_takes s (asks act t) k = record { taken = k.taken; acts = k.acts; answers = k.answers; asked = k.asked; one_by_one = k.one_by_one; reported = k.reported; in_need = k.in_need }

closed_asked : (o : Outcome Next) → (state_of (closed o)).asked ≡ (state_of o).asked
closed_asked (gives next s) = refl
closed_asked (refuses report s) = refl
closed_asked (asks act s) = refl

closed_next : (o p : Outcome Next) → GoesOnIn o p → GoesOnIn (closed o) (closed p)
closed_next (gives next s) p n = tt
closed_next (refuses report s) p n = tt
closed_next (asks act s) p n = (n.0, closed_asked p ∙ n.1)

-- a line takes its answers one by each act
pub line_takes : (tree : LineTree) (line : List ℕ) (w : PlainWorkspace) (answers : List PlainAnswer) (left : ℕ) → Takes (start_of line w answers left) (mean tree line w answers left)
line_takes tree line w answers left =
    let s = start_of line w answers left in closed_takes s (begun (line_outcome (run_below left) immediate tree) s) ((line_alone tree left).takes s)

-- with an answer more, the act that waits is the next that is asked and answered
pub line_next : (tree : LineTree) (line : List ℕ) (w : PlainWorkspace) (answers more : List PlainAnswer) (answer : PlainAnswer) (left : ℕ) → GoesOnIn (mean tree line w answers left) (mean tree line w (answers ++ answer ∷ more) left)
line_next tree line w answers more answer left =
    let s = start_of line w answers left in
    closed_next (begun (line_outcome (run_below left) immediate tree) s) (begun (line_outcome (run_below left) immediate tree) (with_more (answer ∷ more) s)) ((line_alone tree left).next s answer more)
