-- Where memory ran out for a function of its arguments no report of it was due.
use Rattle.std.proofs.Common.{◌≡◌, ℕ, ℤ, Bool, List, [], ◌∷◌, ◌++◌, length, sym, ap, subst, ◌∙◌}
use Rattle.std.specs.Prelude.{Option, Some, None, Result, Ok, Err, IsOk, is_some, map, option_map, option_to_list, reverse, if◌then◌else◌}
use Rattle.std.proofs.lemmas.Bool.{le-leb}
use Rattle.apl_arrays.specs.Array.{PlainArray}
use Rattle.apl_arrays.specs.declared.report.Fail.{Fail}
use Rattle.apl_arrays.specs.declared.report.Fail.TheVariants as fail
use Rattle.apl_arrays.specs.declared.report.Report.{Report}
use Rattle.apl_arrays.specs.declared.report.Report.TheVariants.{Syntax, WsFull}
use Rattle.apl_arrays.specs.declared.system.SystemName.{SystemName}
use Rattle.apl_verbs.specs.declared.verb.Verb.{Verb}
use Rattle.apl_items.specs.Answers.{Answers, ArrayResult}
use Rattle.apl_items.specs.Places.{OnWantOfMemory}
use Rattle.apl_selection.proofs.WantLemmas.{array_is_ok}
use Rattle.apl_workspace.specs.Function.{PlainFunction}
use Rattle.apl_workspace.specs.Limits.{most_depth, most_weight}
use Rattle.apl_workspace.specs.Workspace.{PlainWorkspace, look, with_frame, workspace_weight}
use Rattle.apl_workspace.specs.declared.args.Args.{Args}
use Rattle.apl_workspace.specs.declared.meaning.Meaning.{Meaning}
use Rattle.line_trees.specs.declared.tree.Fun.{Fun}
use Rattle.line_trees.specs.declared.tree.Fun.TheVariants as fun
use Rattle.apl_meaning.specs.Calls.{call, call_by, called, leaving}
use Rattle.apl_meaning.specs.Expressions.{Found, performed, performed_along}
use Rattle.apl_meaning.specs.Nodes.{apply_step, leaving_values}
use Rattle.apl_meaning.specs.Queries.{system_outcome}
use Rattle.apl_meaning.specs.State.{State, Outcome, gives, refuses, asks, and_then, outcome_of, with_workspace}
use Rattle.apl_meaning.specs.Tasks.{Run, lines_from}
use Rattle.apl_meaning.specs.Verbs.{application, named_axis}
use Rattle.apl_values.specs.declared.part.Part.{Part}
use Rattle.apl_values.specs.declared.values.StackValue.{StackValue}
use Rattle.apl_values.specs.Values.{stack_value}
use Rattle.apl_statements.specs.declared.evaluation.Evaluation.{Evaluation}
use Rattle.apl_statements.specs.declared.evaluation.Operands.{Operands}
use Rattle.apl_statements.specs.Evaluating.{function_by}
use Rattle.apl_statements.specs.Holding.{parts_of, stack_values}
use Rattle.apl_statements.specs.Interpreter.{PlainInterpreter, state_at}
use Rattle.apl_statements.specs.Moves.{if_there}
use Rattle.apl_statements.specs.Operands.{operand_list}
use Rattle.apl_statements.specs.Wants.{IsNoReport, NoReportIsDue}
use Rattle.apl_statements.proofs.Renewing.{above}
use Rattle.apl_statements.proofs.Wants.{valued_no_report}
use Rattle.apl_calls.specs.Callings.{MayBeCalled}
use Rattle.apl_calls.proofs.Enters.{takes_function}
use Rattle.apl_machine.specs.Axes.{IsAxis, IsNoAxis}
use Rattle.apl_machine.specs.Wants.{UnlessReport, no_lines}
use Rattle.apl_machine.proofs.Performs.{operands_first, there}

-- ---- what a function gives, before the values that it left

pub leaves_free : (values : List PlainArray) (o : Outcome Found) → IsNoReport o → IsNoReport (leaving_values values o)
leaves_free values (gives found s) free = tt
leaves_free values (refuses report s) free = free
leaves_free values (asks act s) free = tt

axis_free : (run : Run) (m : PlainInterpreter) (f : Fun) (left : Option PlainArray) (axis right : PlainArray) (values : List PlainArray) (number : ℤ) → named_axis axis ≡ Ok number → NoReportIsDue m (performed run f left right (Some number))
    → NoReportIsDue m (λ s. leaving_values values (performed_along run f left axis right s))
axis_free run m f left axis right values number is free asked count taken =
    let s : State = state_at m asked count taken [] in
    subst (λ (r : Result ℤ Report). IsNoReport (leaving_values values (and_then (outcome_of r s) (λ k t. performed run f left right (Some k) t)))) (sym is)
    (leaves_free values (performed run f left right (Some number) s) (free asked count taken))

plain_free : (run : Run) (m : PlainInterpreter) (f : Fun) (left : Option PlainArray) (right : PlainArray) (values : List PlainArray) (number : Option ℤ) → number ≡ None → NoReportIsDue m (performed run f left right number)
    → NoReportIsDue m (λ s. leaving_values values (performed run f left right None s))
plain_free run m f left right values number is free asked count taken =
    let s : State = state_at m asked count taken [] in
    leaves_free values (performed run f left right None s) (subst (λ (k : Option ℤ). IsNoReport (performed run f left right k s)) is (free asked count taken))

operands_free : (run : Run) (m : PlainInterpreter) (f : Fun) (left axis : Option PlainArray) (right : PlainArray) (values : List PlainArray) (number : Option ℤ) → IsAxis axis number → NoReportIsDue m (performed run f left right number)
    → NoReportIsDue m (apply_step run f (if_there (is_some left)) (if_there (is_some axis)) (option_to_list left ++ (option_to_list axis ++ right ∷ values)))
operands_free run m f None None right values number is free = plain_free run m f None right values number is free
operands_free run m f (Some left) None right values number is free = plain_free run m f (Some left) right values number is free
operands_free run m f None (Some axis) right values None is free = absurd is
operands_free run m f None (Some axis) right values (Some number) is free = axis_free run m f None axis right values number is free
operands_free run m f (Some left) (Some axis) right values None is free = absurd is
operands_free run m f (Some left) (Some axis) right values (Some number) is free = axis_free run m f (Some left) axis right values number is free

-- the newest values of a statement are the arguments, and performing the function has no report
pub performs_there : (run : Run) (m : PlainInterpreter) (e : Evaluation) (f : Fun) (has_left has_axis : Bool) (under : List StackValue) (operands : Operands) (number : Option ℤ)
    → e.values.items ≡ under ++ operand_list operands → is_some operands.left ≡ has_left → is_some operands.axis ≡ has_axis
    → IsAxis (option_map (stack_value m.workspace (parts_of e)) operands.axis) number
    → NoReportIsDue m (performed run f (option_map (stack_value m.workspace (parts_of e)) operands.left) (stack_value m.workspace (parts_of e) operands.right) number)
    → NoReportIsDue m (apply_step run f (if_there has_left) (if_there has_axis) (stack_values m.workspace e))
performs_there run m e f has_left has_axis under operands number taken first second is free =
    let value : StackValue → PlainArray = stack_value m.workspace (parts_of e) in
    let left : Option PlainArray = option_map value operands.left in
    let axis : Option PlainArray = option_map value operands.axis in
    let values : List PlainArray = reverse (map value under) in
    let front : List PlainArray = option_to_list left ++ (option_to_list axis ++ value operands.right ∷ values) in
    let all : stack_values m.workspace e ≡ front = ap (λ (hs : List StackValue). reverse (map value hs)) taken ∙ operands_first value under operands in
    subst (λ (list : List PlainArray). NoReportIsDue m (apply_step run f (if_there has_left) (if_there has_axis) list)) (sym all)
    (subst (λ (b : Bool). NoReportIsDue m (apply_step run f (if_there b) (if_there has_axis) front)) (there value operands.left ∙ first)
    (subst (λ (b : Bool). NoReportIsDue m (apply_step run f (if_there (is_some left)) (if_there b) front)) (there value operands.axis ∙ second)
    (operands_free run m f left axis (value operands.right) values number is free)))

-- a function takes its arguments, and performing it has no report
pub performs_free : (run : Run) (m : PlainInterpreter) (e after : Evaluation) (f : Fun) (has_left has_axis : Bool) (operands : Operands) (number : Option ℤ)
    → after ≡ record e { values = after.values } → e.values.items ≡ after.values.items ++ operand_list operands → is_some operands.left ≡ has_left → is_some operands.axis ≡ has_axis
    → IsAxis (option_map (stack_value m.workspace (parts_of after)) operands.axis) number
    → NoReportIsDue m (performed run f (option_map (stack_value m.workspace (parts_of after)) operands.left) (stack_value m.workspace (parts_of after) operands.right) number)
    → NoReportIsDue m (apply_step run f (if_there has_left) (if_there has_axis) (stack_values m.workspace e))
performs_free run m e after f has_left has_axis operands number same taken first second is free =
    let own : parts_of after ≡ parts_of e = ap parts_of same in
    performs_there run m e f has_left has_axis after.values.items operands number taken first second
    (subst (λ (parts : List Part). IsAxis (option_map (stack_value m.workspace parts) operands.axis) number) own is)
    (subst (λ (parts : List Part). NoReportIsDue m (performed run f (option_map (stack_value m.workspace parts) operands.left) (stack_value m.workspace parts operands.right) number)) own free)

-- ---- what each function has

pub verb_free : (run : Run) (m : PlainInterpreter) (verb : Verb) (left : Option PlainArray) (right : PlainArray) (number : Option ℤ) → NoReportIsDue m (application verb left right number) → NoReportIsDue m (performed run (fun.Verb verb) left right number)
verb_free run m verb left right number free asked count taken = valued_no_report (application verb left right number (state_at m asked count taken [])) (free asked count taken)

pub system_free : (run : Run) (m : PlainInterpreter) (name : SystemName) (left : Option PlainArray) (right : PlainArray) (number : Option ℤ) → NoReportIsDue m (system_outcome name left right) → NoReportIsDue m (performed run (fun.System name) left right number)
system_free run m name left right number free asked count taken = valued_no_report (system_outcome name left right (state_at m asked count taken [])) (free asked count taken)

-- a function that may be called, and is left at once
pub call_free : (m : PlainInterpreter) (name : List ℕ) (args : Args) → MayBeCalled m.workspace name args → NoReportIsDue m (call no_lines name args)
call_free m name args may asked count taken =
    let s : State = state_at m asked count taken [] in
    let v : PlainWorkspace = with_frame m.workspace name args in
    let function : PlainFunction = function_by (look m.workspace name) in
    let is = takes_function (look m.workspace name) args may.takes in
    let rest : Unit {0} → State → Outcome Found = λ _ t. and_then (no_lines (lines_from function 1) t) (λ _ u. leaving function s.here u) in
    subst (λ (seen : Meaning). IsNoReport (call_by no_lines seen name args s)) (sym is.0)
    (subst (λ (b : Bool). IsNoReport (if b then called no_lines function name args s else refuses Syntax s)) (sym is.1)
    (subst (λ (b : Bool). IsNoReport (and_then (if b then refuses WsFull s else with_workspace v s) rest)) (sym (above most_depth (length m.workspace.frames) may.shallow))
    (subst (λ (b : Bool). IsNoReport (and_then (if b then gives tt (record s { workspace = v }) else refuses WsFull s) rest)) (sym (le-leb (workspace_weight v) most_weight may.fits)) tt)))

pub defined_free : (m : PlainInterpreter) (name : List ℕ) (left : Option PlainArray) (right : PlainArray) (number : Option ℤ) → MayBeCalled m.workspace name (record { left = left; right = Some right })
    → NoReportIsDue m (performed no_lines (fun.Defined name) left right number)
defined_free m name left right number may = call_free m name (record { left = left; right = Some right }) may

-- an axis that has no number is told without memory
pub no_axis_wants : (T : Type 0) (axis : Option PlainArray) (why : Fail) (fact : Type 0) → IsNoAxis axis why → UnlessReport {T = T} (Err why) fact
no_axis_wants T None why fact is = absurd is
no_axis_wants T (Some axis) (fail.Report report) fact is = tt
no_axis_wants T (Some axis) fail.WantOfMemory fact is = absurd is

-- what holds unless a report is told holds where memory ran out
pub want_told : (T U : Type 0) (why : Fail) (fact : Type 0) → UnlessReport {T = T} (Err why) fact → OnWantOfMemory {T = U} (Err why) fact
want_told T U (fail.Report report) fact holds = tt
want_told T U fail.WantOfMemory fact holds = holds

pub weaker_unless : {T : Type 0} (r : Result T Fail) (p q : Type 0) → (p → q) → UnlessReport r p → UnlessReport r q
weaker_unless (Ok value) p q leads holds = leads holds
weaker_unless (Err (fail.Report report)) p q leads holds = tt
weaker_unless (Err fail.WantOfMemory) p q leads holds = leads holds

-- what holds of an answer with an array holds unless a report is told
pub answer_free : (r : Result PlainArray Fail) (answer : ArrayResult) (fact : Type 0) → (IsOk answer → fact) → Answers r answer → OnWantOfMemory r (IsOk answer) → UnlessReport r fact
answer_free (Ok array) answer fact leads is wants = leads (array_is_ok answer array is)
answer_free (Err (fail.Report report)) answer fact leads is wants = tt
answer_free (Err fail.WantOfMemory) answer fact leads is wants = leads wants
