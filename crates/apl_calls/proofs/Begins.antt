-- Statements that are begun: they are counted, read, and come to their first node.
use Rattle.std.proofs.Common.{◌≡◌, ℕ, zero, suc, ◌+◌, ◌-◌, ◌<◌, Bool, false, List, [], drop, refl, sym, ap, subst, ◌∙◌, arith}
use Rattle.std.specs.Prelude.{Option, Some, None, Result, Err, map, reverse}
use Rattle.std.specs.Arc.{arc_value}
use Rattle.apl_arrays.specs.declared.report.Fail.{Fail}
use Rattle.apl_arrays.specs.declared.report.Report.{Report}
use Rattle.apl_arrays.specs.declared.report.Report.TheVariants.{Interrupt}
use Rattle.line_trees.specs.Nodes.{PlainNode}
use Rattle.line_trees.specs.Trees.{Statement, nothing, branch, whole, execute, LineTree, line_tree_of, nodes_of_statement}
use Rattle.line_trees.specs.Parsing.{PlainTree}
use Rattle.apl_arrays.specs.declared.report.Fail.TheVariants as fail
use Rattle.sv_events.specs.Answer.{PlainAnswer}
use Rattle.sv_events.specs.declared.event.Act.{Act}
use Rattle.apl_meaning.specs.State.{State, Outcome, refuses, and_then}
use Rattle.apl_meaning.specs.Tasks.{Next, Place, begun, begun_by, text_at}
use Rattle.apl_meaning.specs.Meaning.{closed, ran}
use Rattle.apl_meaning.specs.Nodes.{ready}
use Rattle.apl_meaning.specs.Reading.{Read, read_with}
use Rattle.apl_meaning.specs.Statements.{is_misplaced, is_silent, line_by, line_outcome, read_outcome, statement_outcome, text_outcome}
use Rattle.apl_meaning.proofs.Ran.{ran_text}
use Rattle.apl_values.specs.declared.place.Place.{Place as CodePlace}
use Rattle.apl_values.specs.declared.reading.LineReading.{LineReading}
use Rattle.apl_values.specs.declared.values.StackValue.{StackValue}
use Rattle.apl_values.specs.Places.{plain_place}
use Rattle.apl_values.specs.Parts.{IsNotRead, IsReadFrom, IsLineReading, plain_parts, reading_statement, reading_tree}
use Rattle.apl_values.specs.Values.{stack_value}
use Rattle.apl_statements.specs.declared.evaluation.Evaluation.{Evaluation}
use Rattle.apl_statements.specs.declared.evaluation.Purpose.{Purpose}
use Rattle.apl_statements.specs.declared.flow.Flow.{Flow}
use Rattle.apl_statements.specs.declared.flow.Flow.TheVariants as flow
use Rattle.apl_statements.specs.Evaluating.{evaluation_of, plain_purpose, purpose_in, values_where}
use Rattle.apl_statements.specs.Interpreter.{PlainInterpreter, state_at}
use Rattle.apl_statements.specs.Moves.{Comes, Moves, flow_to_come, statement_leads}
use Rattle.apl_statements.specs.Stack.{PlainPurpose, branches, prints, executes, PlainEvaluation, behind, onward, rest_of_statement}
use Rattle.apl_statements.specs.Holding.{parts_of}
use Rattle.apl_statements.proofs.Moving.{comes_after}
use Rattle.apl_statements.proofs.Same.{SameAt, at_once, comes_as}
use Rattle.apl_statements.proofs.Steps.{branch_begins, execute_begins, whole_begins}

-- an interpreter in which one statement less may be begun
abbrev pub counted : PlainInterpreter → PlainInterpreter
counted m = record m { statements = m.statements - 1 }

-- a statement is counted where one may be begun
pub is_counted : (m : PlainInterpreter) (next : State → Outcome Next) → 0 < m.statements → Moves m (statement_leads m (λ s. begun next s)) 0 (counted m) (statement_leads (counted m) next)
is_counted m next some = record { same = λ asked count taken further. by m.statements refl some asked count taken further }
  where
    by : (n : ℕ) → m.statements ≡ n → 0 < n → (asked : List Act) (count : ℕ) (taken : List (List ℕ)) (further : List PlainAnswer)
        → closed (and_then (begun_by m.statements next (state_at m asked count taken further)) (λ next t. behind m.stack next t))
        ≡ closed (and_then (next (state_at (counted m) asked (count + 0) taken further)) (λ next t. behind m.stack next t))
    by zero is lt asked count taken further = absurd (omega (arith, lt))
    by (suc n) is lt asked count taken further =
        let e : count ≡ count + 0 = omega arith in
        let left : n ≡ m.statements - 1 = omega (arith, is) in
        ap (λ (k : ℕ). closed (and_then (begun_by k next (state_at m asked count taken further)) (λ next t. behind m.stack next t))) is
        ∙ ap (λ (k : ℕ). closed (and_then (next (record (state_at m asked count taken further) { statements = k })) (λ next t. behind m.stack next t))) left
        ∙ ap (λ (c : ℕ). closed (and_then (next (state_at (counted m) asked c taken further)) (λ next t. behind m.stack next t))) e

-- where none may, that is INTERRUPT
pub none_may : (m : PlainInterpreter) (next : State → Outcome Next) → m.statements ≡ 0 → SameAt m (statement_leads m (λ s. begun next s)) (λ s. refuses Interrupt s)
none_may m next none asked count taken further = ap (λ (n : ℕ). and_then (begun_by n next (state_at m asked count taken further)) (λ next t. behind m.stack next t)) none

-- what comes of a statement that is counted
pub counted_comes : (m n o : PlainInterpreter) (next : State → Outcome Next) (r : Result Flow Fail) → 0 < m.statements → n ≡ counted m → Comes n (statement_leads n next) 0 o r → Comes m (statement_leads m (λ s. begun next s)) 0 o r
counted_comes m n o next r some is comes =
    let first : Moves m (statement_leads m (λ s. begun next s)) 0 n (statement_leads n next) = subst (λ (x : PlainInterpreter). Moves m (statement_leads m (λ s. begun next s)) 0 x (statement_leads x next)) (sym is) (is_counted m next some) in
    comes_after m n o (statement_leads m (λ s. begun next s)) (statement_leads n next) 0 r first comes

pub not_counted_comes : (m n : PlainInterpreter) (next : State → Outcome Next) (why : Report) → n ≡ m → why ≡ Interrupt → m.statements ≡ 0 → Comes m (statement_leads m (λ s. begun next s)) 0 n (Err (fail.Report why))
not_counted_comes m n next why same is none =
    subst (λ (x : PlainInterpreter). Moves m (statement_leads m (λ s. begun next s)) 0 x (λ s. refuses why s)) (sym same)
    (subst (λ (r : Report). Moves m (statement_leads m (λ s. begun next s)) 0 m (λ s. refuses r s)) (sym is) (at_once m (statement_leads m (λ s. begun next s)) (λ s. refuses Interrupt s) (none_may m next none)))

-- a text at a place is begun
pub text_is_begun : (m : PlainInterpreter) (place : Place) (text : List ℕ) (s : State) → statement_leads m (λ s. ran (text_at place text) s) s ≡ statement_leads m (λ s. begun (text_outcome ran place text) s) s
text_is_begun m place text s = ap (λ (o : Outcome Next). and_then o (λ next t. behind m.stack next t)) (ran_text place text s)

-- what comes of it
pub text_comes : (m n : PlainInterpreter) (place : Place) (text : List ℕ) (r : Result Flow Fail) → Comes m (statement_leads m (λ s. begun (text_outcome ran place text) s)) 0 n r → Comes m (statement_leads m (λ s. ran (text_at place text) s)) 0 n r
text_comes m n place text r comes =
    comes_as m n (statement_leads m (λ s. ran (text_at place text) s)) (statement_leads m (λ s. begun (text_outcome ran place text) s)) 0 r (λ asked count taken further. text_is_begun m place text (state_at m asked count taken further)) comes

-- a text that was read
pub text_read : (m : PlainInterpreter) (place : Place) (text : List ℕ) (reading : LineReading) → IsReadFrom m.workspace text reading
    → SameAt m (statement_leads m (text_outcome ran place text)) (statement_leads m (line_outcome ran place (line_tree_of (reading_tree reading))))
text_read m place text reading is asked count taken further =
    ap (λ (r : Read). and_then (read_outcome ran place r (state_at m asked count taken further)) (λ next t. behind m.stack next t)) is.tree

-- a text that was not
pub text_not_read : (m : PlainInterpreter) (place : Place) (text : List ℕ) (report : Report) → IsNotRead (read_with m.workspace text) (fail.Report report) → SameAt m (statement_leads m (text_outcome ran place text)) (λ s. refuses report s)
text_not_read m place text report is asked count taken further =
    ap (λ (r : Read). and_then (read_outcome ran place r (state_at m asked count taken further)) (λ next t. behind m.stack next t)) is

-- what comes of a text that was read, and of one that was not
pub read_comes : (m : PlainInterpreter) (place : Place) (text : List ℕ) (reading : LineReading) (r : Result Flow Fail) → IsReadFrom m.workspace text reading → Comes m (statement_leads m (line_outcome ran place (line_tree_of (reading_tree reading)))) 0 m r → Comes m (statement_leads m (text_outcome ran place text)) 0 m r
read_comes m place text reading r is comes = comes_as m m (statement_leads m (text_outcome ran place text)) (statement_leads m (line_outcome ran place (line_tree_of (reading_tree reading)))) 0 r (text_read m place text reading is) comes

pub not_read_comes : (m : PlainInterpreter) (place : Place) (text : List ℕ) (why : Fail) → IsNotRead (read_with m.workspace text) why → Comes m (statement_leads m (text_outcome ran place text)) 0 m (Err why)
not_read_comes m place text (fail.Report report) is = at_once m (statement_leads m (text_outcome ran place text)) (λ s. refuses report s) (text_not_read m place text report is)
not_read_comes m place text fail.WantOfMemory is = tt

pub line_may_stand : (m : PlainInterpreter) (place : Place) (line : LineTree) (b : Bool) → b ≡ false → (s : State)
    → and_then (line_by b ran place line s) (λ next t. behind m.stack next t) ≡ and_then (statement_outcome ran place line.statement s) (λ next t. behind m.stack next t)
line_may_stand m place line b is s = ap (λ (b : Bool). and_then (line_by b ran place line s) (λ next t. behind m.stack next t)) is

-- a statement at its first node
abbrev pub first_of : Place → PlainPurpose → List PlainNode → PlainEvaluation
first_of place purpose nodes = record { place = place; purpose = purpose; nodes = nodes; values = ready [] }

begins_by : (st : Statement) (label : Option (List ℕ)) (place : Place) (purpose : PlainPurpose) (nodes : List PlainNode) (s : State) → (nodes_of_statement label st).nodes ≡ nodes → purpose_in st ≡ Some purpose
    → rest_of_statement (first_of place purpose nodes) s ≡ statement_outcome ran place st s
begins_by nothing label place purpose nodes s are is = absurd (let no : None ≡ Some purpose = is in cc)
begins_by (branch e) label place purpose nodes s are is =
    let some : Some branches ≡ Some purpose = is in
    let same : branches ≡ purpose = cc in
    ap (λ (p : PlainPurpose). rest_of_statement (first_of place p nodes) s) (sym same) ∙ ap (λ (list : List PlainNode). rest_of_statement (first_of place branches list) s) (sym are) ∙ branch_begins place e s
begins_by (whole e) label place purpose nodes s are is =
    let some : Some (prints (is_silent e)) ≡ Some purpose = is in
    let same : prints (is_silent e) ≡ purpose = cc in
    ap (λ (p : PlainPurpose). rest_of_statement (first_of place p nodes) s) (sym same) ∙ ap (λ (list : List PlainNode). rest_of_statement (first_of place (prints (is_silent e)) list) s) (sym are) ∙ whole_begins place e s
begins_by (execute e) label place purpose nodes s are is =
    let some : Some executes ≡ Some purpose = is in
    let same : executes ≡ purpose = cc in
    ap (λ (p : PlainPurpose). rest_of_statement (first_of place p nodes) s) (sym same) ∙ ap (λ (list : List PlainNode). rest_of_statement (first_of place executes list) s) (sym are) ∙ execute_begins place e s

-- a statement that was read is what it means from its first node on
pub reading_begins : (reading : LineReading) (place : Place) (purpose : PlainPurpose) (s : State) → IsLineReading reading → purpose_in (reading_statement reading) ≡ Some purpose
    → rest_of_statement (first_of place purpose (plain_parts reading.parts.items)) s ≡ statement_outcome ran place (reading_statement reading) s
reading_begins reading place purpose s is put = begins_by (reading_statement reading) reading.label place purpose (plain_parts reading.parts.items) s (ap (λ (t : PlainTree). t.nodes) is.tree) put

-- what is to come of a statement that begins at its first node
pub begins_comes : (m : PlainInterpreter) (at : CodePlace) (for_this : Purpose) (reading : LineReading) (e : Evaluation) → e.place ≡ at → e.purpose ≡ for_this → arc_value e.reading ≡ reading → e.at ≡ 0 → e.values.items ≡ [] → e.is_wanting ≡ false
    → IsLineReading reading → is_misplaced (plain_place at) (line_tree_of (reading_tree reading)) ≡ false → purpose_in (reading_statement reading) ≡ Some (plain_purpose for_this)
    → Moves m (statement_leads m (line_outcome ran (plain_place at) (line_tree_of (reading_tree reading)))) 0 m (flow_to_come m (flow.Begins e))
begins_comes m at for_this reading e stands put read first none there is may meant =
    let line : LineTree = line_tree_of (reading_tree reading) in
    let nodes : evaluation_of m.workspace e ≡ first_of (plain_place at) (plain_purpose for_this) (plain_parts reading.parts.items) =
    ap (λ p. record (evaluation_of m.workspace e) { place = plain_place p }) stands
    ∙ ap (λ p. record (evaluation_of m.workspace e) { place = plain_place at; purpose = plain_purpose p }) put
    ∙ ap (λ (k : ℕ). record (evaluation_of m.workspace e) { place = plain_place at; purpose = plain_purpose for_this; nodes = drop k (plain_parts (parts_of e)) }) first
    ∙ ap (λ (r : LineReading). record (evaluation_of m.workspace e) { place = plain_place at; purpose = plain_purpose for_this; nodes = plain_parts r.parts.items }) read
    ∙ ap (λ (hs : List StackValue). record (first_of (plain_place at) (plain_purpose for_this) (plain_parts reading.parts.items)) { values = values_where e.is_wanting (reverse (map (stack_value m.workspace (parts_of e)) hs)) }) none
    ∙ ap (λ (b : Bool). record (first_of (plain_place at) (plain_purpose for_this) (plain_parts reading.parts.items)) { values = values_where b [] }) there in
    at_once m (statement_leads m (line_outcome ran (plain_place at) line)) (flow_to_come m (flow.Begins e)) (λ asked count taken further.
    let s : State = state_at m asked count taken further in
    line_may_stand m (plain_place at) line (is_misplaced (plain_place at) line) may s
    ∙ ap (λ (o : Outcome Next). and_then o (λ next t. behind m.stack next t)) (sym (reading_begins reading (plain_place at) (plain_purpose for_this) s is meant))
    ∙ ap (λ (p : PlainEvaluation). onward p m.stack s) (sym nodes))
