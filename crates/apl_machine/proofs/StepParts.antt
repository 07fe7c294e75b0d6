-- The steps of the parts that take no values, and of those that take the newest.
use Rattle.std.proofs.Common.{◌≡◌, ℕ, zero, suc, ◌+◌, ◌<◌, ◌≤◌, Bool, true, false, List, [], ◌∷◌, drop, get_or, length, refl, sym, ap, subst, ◌∙◌, add-one, arith}
use Rattle.std.specs.Arc.{arc_value}
use Rattle.std.specs.Prelude.{Option, Some, None, Result, Ok, Err, All, IfErr, IfOk, IfSome, is_some, option_map, slice_get, unwrap_or}
use Rattle.std.proofs.lemmas.Option.{get_or_from_slice_get, slice_get_read, slice_get_within}
use Rattle.apl_arrays.specs.Array.{PlainArray, PlainItems}
use Rattle.apl_arrays.specs.List.{Listed}
use Rattle.apl_arrays.specs.declared.report.Fail.{Fail}
use Rattle.apl_arrays.specs.declared.report.Fail.TheVariants as fail
use Rattle.apl_arrays.specs.declared.report.Report.{Report}
use Rattle.apl_arrays.specs.declared.report.Report.TheVariants.{Value, WsFull}
use Rattle.apl_items.specs.Answers.{first_report, shape_faults, unless}
use Rattle.apl_workspace.specs.Workspace.{look}
use Rattle.apl_workspace.specs.declared.meaning.Meaning.{Meaning}
use Rattle.line_trees.specs.Nodes as node
use Rattle.line_trees.specs.Nodes.{PlainNode, plain_node}
use Rattle.line_trees.specs.declared.tree.Fun.{Fun}
use Rattle.line_trees.specs.declared.tree.Node.TheVariants as coded
use Rattle.apl_meaning.specs.State.{State, Outcome, gives, refuses, and_then, outcome_of}
use Rattle.apl_meaning.specs.Tasks.{Next, Run}
use Rattle.apl_meaning.specs.Expressions.{Found, constant_array, constant_outcome, valued}
use Rattle.apl_meaning.specs.Nodes.{Values, apply_step, leaving_values, node_step, ready}
use Rattle.apl_meaning.specs.Meaning.{ran}
use Rattle.apl_meaning.specs.Variables.{reference, reference_by}
use Rattle.apl_values.specs.declared.part.Part.{Part}
use Rattle.apl_values.specs.declared.part.Part.TheVariants as part
use Rattle.apl_values.specs.declared.reading.LineReading.{LineReading}
use Rattle.apl_values.specs.declared.values.StackValue.TheVariants as held
use Rattle.apl_values.specs.Parts.{IsConstant, IsPart, is_paren, plain_part, plain_parts}
use Rattle.apl_values.specs.Values.{constant_of, stack_value, no_array}
use Rattle.apl_values.proofs.Constants.{constant_gives}
use Rattle.apl_statements.specs.declared.evaluation.Evaluation.{Evaluation}
use Rattle.apl_statements.specs.declared.flow.Flow.{Flow}
use Rattle.apl_statements.specs.declared.flow.Flow.TheVariants as flow
use Rattle.apl_statements.specs.Evaluating.{caller_of, evaluation_of, values_where}
use Rattle.apl_statements.specs.Interpreter.{PlainInterpreter, here, state_at}
use Rattle.apl_statements.specs.Moves.{Coming, Comes, flow_to_come, if_there, part_gives, part_takes}
use Rattle.apl_statements.specs.Stack.{assignment_step, carried_on, onward}
use Rattle.apl_statements.specs.Holding.{stack_values, parts_of}
use Rattle.apl_subscripts.specs.Held.{places_in}
use Rattle.apl_machine.specs.Nexts.{IsNext, given_places}
use Rattle.apl_statements.proofs.Parts.{next_around_none, next_part, next_wants, part_leaves}
use Rattle.apl_statements.proofs.Same.{SameAt, at_once}

-- the next part is the first of the nodes that are left
behind_it : (parts : List Part) (at : ℕ) (part : Part) → slice_get parts at ≡ Some part → drop at (plain_parts parts) ≡ plain_part part ∷ drop (suc at) (plain_parts parts)
behind_it [] at part e = absurd (let no : None ≡ Some part = e in cc)
behind_it (p ∷ parts) zero part e = let some : Some p ≡ Some part = e in let same : p ≡ part = cc in ap (λ (p : Part). plain_part p ∷ plain_parts parts) same
behind_it (p ∷ parts) (suc at) part e = behind_it parts at part e

pub part_next : (parts : List Part) (at : ℕ) (part : Part) → slice_get parts at ≡ Some part → drop at (plain_parts parts) ≡ plain_part part ∷ drop (at + 1) (plain_parts parts)
part_next parts at part e = behind_it parts at part e ∙ ap (λ (k : ℕ). plain_part part ∷ drop k (plain_parts parts)) (sym (add-one at))

-- a statement behind its next part
abbrev pub passed : Evaluation → Evaluation
passed e = record e { at = e.at + 1 }

-- the next part takes its values
pub steps_to : (m : PlainInterpreter) (e : Evaluation) (part : Part) (s : State) → slice_get (parts_of e) e.at ≡ Some part → e.is_wanting ≡ false
    → onward (evaluation_of m.workspace e) m.stack s ≡ part_takes m (passed e) (node_step ran (plain_part part)) s
steps_to m e part s is there = next_part m e (plain_part part) s (part_next (parts_of e) e.at part is) there

-- a part that takes none
pub takes_none : (m : PlainInterpreter) (e : Evaluation) (found : State → Outcome Found) (s : State) → part_takes m e (λ values s. leaving_values values (found s)) s ≡ part_gives m e found s
takes_none m e found s = part_leaves m e (stack_values m.workspace e) (found s)

-- one that would be too large
pub constant_refused : (items : PlainItems) (s : State) → first_report (shape_faults (constant_array items).shape) ≡ Some WsFull → valued (constant_outcome items s) ≡ refuses WsFull s
constant_refused items s is = ap (λ (report : Option Report). valued (outcome_of (unless report (constant_array items)) s)) is

-- parentheses change nothing
pub paren_stays : (m : PlainInterpreter) (e : Evaluation) (s : State) → e.is_wanting ≡ false → part_takes m e (λ values t. gives (ready values) t) s ≡ onward (evaluation_of m.workspace e) m.stack s
paren_stays m e s there = ap (λ (wanted : Bool). onward (record (evaluation_of m.workspace e) { values = values_where wanted (stack_values m.workspace e) }) m.stack s) (sym there)

-- a reference where the name stands for this
pub refers_to : (m : PlainInterpreter) (e : Evaluation) (name : List ℕ) (seen : Meaning) → look m.workspace name ≡ seen → SameAt m (part_gives m e (λ s. valued (reference name s))) (part_gives m e (λ s. valued (reference_by seen name s)))
refers_to m e name seen is asked count taken further =
    ap (λ (found : Meaning). carried_on (valued (reference_by found name (state_at m asked count taken further))) (caller_of m.workspace (here m) e) m.stack) is

-- ---- the next part by the node that it is

-- the next part takes its values
steps_by : (m : PlainInterpreter) (e : Evaluation) (n : PlainNode) (found : Option Part) (s : State) → slice_get (parts_of e) e.at ≡ found → option_map plain_part found ≡ Some n → e.is_wanting ≡ false
    → onward (evaluation_of m.workspace e) m.stack s ≡ part_takes m (passed e) (node_step ran n) s
steps_by m e n None s is node there = absurd (let no : None ≡ Some n = node in cc)
steps_by m e n (Some part) s is node there =
    let some : Some (plain_part part) ≡ Some n = node in
    let same : plain_part part ≡ n = cc in
    steps_to m e part s is there ∙ ap (λ (k : PlainNode). part_takes m (passed e) (node_step ran k) s) same

-- what is still to come of a statement
abbrev pub to_come : PlainInterpreter → Evaluation → Coming
to_come m e s = onward (evaluation_of m.workspace e) m.stack s

pub next_takes : (m : PlainInterpreter) (e : Evaluation) (n : PlainNode) → IsNext e n → e.is_wanting ≡ false → SameAt m (to_come m e) (part_takes m (passed e) (node_step ran n))
next_takes m e n next there asked count taken further = steps_by m e n (slice_get (parts_of e) e.at) (state_at m asked count taken further) refl next there

-- a part that takes no value
pub next_gives : (m : PlainInterpreter) (e : Evaluation) (n : PlainNode) (found : State → Outcome Found) → IsNext e n → e.is_wanting ≡ false
    → ((values : List PlainArray) (s : State) → node_step ran n values s ≡ leaving_values values (found s)) → SameAt m (to_come m e) (part_gives m (passed e) found)
next_gives m e n found next there none asked count taken further =
    let s : State = state_at m asked count taken further in
    next_takes m e n next there asked count taken further
    ∙ ap (λ (o : Outcome Values). and_then o (λ values t. onward (record (evaluation_of m.workspace (passed e)) { values = values }) m.stack t)) (none (stack_values m.workspace e) s)
    ∙ takes_none m (passed e) found s

-- a constant
pub next_constant : (m : PlainInterpreter) (e : Evaluation) (array : PlainArray) → slice_get (parts_of e) e.at ≡ Some (part.Constant array) → e.is_wanting ≡ false → IsConstant array
    → SameAt m (to_come m e) (part_gives m (passed e) (λ s. gives (Some (stack_value m.workspace (parts_of (passed e)) (held.Constant e.at))) s))
next_constant m e array is there constant asked count taken further =
    let s : State = state_at m asked count taken further in
    let found : Outcome Found → Outcome Next = λ o. carried_on o (caller_of m.workspace (here m) (passed e)) m.stack in
    next_gives m e (node.constant array.items) (λ s. valued (constant_outcome array.items s)) (ap (option_map plain_part) is) there (λ values t. refl) asked count taken further
    ∙ ap found (constant_gives array s constant)
    ∙ ap (λ (o : Option Part). found (gives (Some (unwrap_or (constant_of o) no_array)) s)) (sym is)

-- one that would be too large
pub next_too_large : (m : PlainInterpreter) (e : Evaluation) (items : PlainItems) → IsNext e (node.constant items) → e.is_wanting ≡ false → first_report (shape_faults (constant_array items).shape) ≡ Some WsFull → SameAt m (to_come m e) (λ s. refuses WsFull s)
next_too_large m e items next there large asked count taken further =
    let s : State = state_at m asked count taken further in
    next_gives m e (node.constant items) (λ s. valued (constant_outcome items s)) next there (λ values t. refl) asked count taken further
    ∙ ap (λ (o : Outcome Found). carried_on o (caller_of m.workspace (here m) (passed e)) m.stack) (constant_refused items s large)

-- parentheses
pub next_paren : (m : PlainInterpreter) (e : Evaluation) (k : ℕ) → IsNext e (node.paren k) → e.is_wanting ≡ false → SameAt m (to_come m e) (to_come m (passed e))
next_paren m e k next there asked count taken further = next_takes m e (node.paren k) next there asked count taken further ∙ paren_stays m (passed e) (state_at m asked count taken further) there

pub apply_there : (run : Run) (f : Fun) (left axis : Option ℕ) (values : List PlainArray) (s : State) → apply_step run f left axis values s ≡ apply_step run f (if_there (is_some left)) (if_there (is_some axis)) values s
apply_there run f None None values s = refl
apply_there run f None (Some axis) values s = refl
apply_there run f (Some left) None values s = refl
apply_there run f (Some left) (Some axis) values s = refl

-- a function
pub next_apply : (m : PlainInterpreter) (e : Evaluation) (f : Fun) (left : Option ℕ) (right : ℕ) (axis : Option ℕ) → IsNext e (node.apply f left right axis) → e.is_wanting ≡ false
    → SameAt m (to_come m e) (part_takes m (passed e) (apply_step ran f (if_there (is_some left)) (if_there (is_some axis))))
next_apply m e f left right axis next there asked count taken further =
    next_takes m e (node.apply f left right axis) next there asked count taken further
    ∙ ap (λ (o : Outcome Values). and_then o (λ values t. onward (record (evaluation_of m.workspace (passed e)) { values = values }) m.stack t)) (apply_there ran f left axis (stack_values m.workspace e) (state_at m asked count taken further))

assign_there : (target : List ℕ) (subs : Option (Listed (Option ℕ))) (right : ℕ) (values : List PlainArray) (s : State) → node_step ran (plain_node (coded.Assign target subs right)) values s ≡ assignment_step target (option_map (λ places. places.items) subs) values s
assign_there target None right values s = refl
assign_there target (Some places) right values s = refl

-- an assignment
-- the places of an assignment to items are those between its brackets
pub given_is : (target : List ℕ) (subs : Option (Listed (Option ℕ))) (right : ℕ) (has : Bool) → has ≡ is_some subs → given_places has (places_in (Some (plain_node (coded.Assign target subs right)))) ≡ option_map (λ places. places.items) subs
given_is target None right has is = ap (λ (b : Bool). given_places b []) is
given_is target (Some places) right has is = ap (λ (b : Bool). given_places b places.items) is

pub next_assign : (m : PlainInterpreter) (e : Evaluation) (target : List ℕ) (subs : Option (Listed (Option ℕ))) (right : ℕ) → IsNext e (plain_node (coded.Assign target subs right)) → e.is_wanting ≡ false
    → SameAt m (to_come m e) (part_takes m (passed e) (assignment_step target (option_map (λ places. places.items) subs)))
next_assign m e target subs right next there asked count taken further =
    next_takes m e (plain_node (coded.Assign target subs right)) next there asked count taken further
    ∙ ap (λ (o : Outcome Values). and_then o (λ values t. onward (record (evaluation_of m.workspace (passed e)) { values = values }) m.stack t)) (assign_there target subs right (stack_values m.workspace e) (state_at m asked count taken further))

-- ---- the part that was read

-- the next part is the one that was read
pub read_part : (e : Evaluation) (reading : LineReading) (one : Part) → reading ≡ arc_value e.reading → one ≡ get_or reading.parts.items e.at one → e.at < length (parts_of e) → slice_get (parts_of e) e.at ≡ Some one
read_part e reading one same is lt = slice_get_read (parts_of e) (length (parts_of e)) e.at one refl lt (is ∙ ap (λ (r : LineReading). get_or r.parts.items e.at one) same)

-- it is this node
pub read_next : (e : Evaluation) (one : Part) (n : PlainNode) → slice_get (parts_of e) e.at ≡ Some one → plain_part one ≡ n → IsNext e n
read_next e one n is same = ap (option_map plain_part) is ∙ ap (λ (k : PlainNode). Some k) same

-- and it is sound
pub read_sound : (e : Evaluation) (one : Part) → slice_get (parts_of e) e.at ≡ Some one → All IsPart (parts_of e) → IsPart one
read_sound e one is all = subst IsPart (get_or_from_slice_get (parts_of e) e.at one one is) (all e.at one (slice_get_within (parts_of e) e.at one is))

-- ---- where a value is wanting

slice_get_none : {A : Type 0} (xs : List A) (i : ℕ) → slice_get xs i ≡ None → length xs ≤ i
slice_get_none [] i is = omega arith
slice_get_none (x ∷ xs) zero is = absurd (let no : Some x ≡ None = is in cc)
slice_get_none (x ∷ xs) (suc i) is = let under : length xs ≤ i = slice_get_none xs i is in omega (arith, under)

pub passes_wanting : (m : PlainInterpreter) (e : Evaluation) (r : Result Flow Fail) (found : Option Part) → slice_get (parts_of e) e.at ≡ found → e.at < length (parts_of e) → e.is_wanting ≡ true
    → IfOk r (λ next. next ≡ flow.Evaluates (passed e)) → IfOk r (λ next. IfSome found (λ next_one. is_paren (plain_part next_one) ≡ true))
    → IfErr r (λ why. (why ≡ fail.Report Value) × IfSome found (λ next_one. is_paren (plain_part next_one) ≡ false)) → Comes m (to_come m e) 0 m r
passes_wanting m e r None is lt there done paren refused = absurd (let past : length (parts_of e) ≤ e.at = slice_get_none (parts_of e) e.at is in omega (arith, past, lt))
passes_wanting m e (Ok next) (Some one) is lt there done paren refused =
    at_once m (to_come m e) (flow_to_come m next) (λ asked count taken further.
    let s : State = state_at m asked count taken further in
    next_around_none m e (plain_part one) s (part_next (parts_of e) e.at one is) there paren ∙ ap (λ (f : Flow). flow_to_come m f s) (sym done))
passes_wanting m e (Err why) (Some one) is lt there done paren refused =
    subst (λ (w : Fail). Comes m (to_come m e) 0 m (Err w)) (sym refused.0)
    (at_once m (to_come m e) (λ s. refuses Value s) (λ asked count taken further.
    next_wants m e (plain_part one) (state_at m asked count taken further) (part_next (parts_of e) e.at one is) there refused.1))
