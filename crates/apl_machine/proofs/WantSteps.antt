-- Where memory ran out for a part of a statement no report of it was due.
use Rattle.std.proofs.Common.{◌≡◌, ℕ, Bool, true, false, List, [], refl, sym, ap, subst, ◌∙◌}
use Rattle.std.specs.Prelude.{Option, Some, None, Result, Ok, Err, IfErr, is_some}
use Rattle.std.proofs.lemmas.Bool.{false≢true}
use Rattle.apl_arrays.specs.Array.{PlainArray}
use Rattle.apl_arrays.specs.List.{Listed}
use Rattle.apl_arrays.specs.declared.report.Fail.{Fail}
use Rattle.apl_arrays.specs.declared.report.Fail.TheVariants as fail
use Rattle.apl_arrays.specs.declared.report.Report.{Report}
use Rattle.apl_items.specs.Places.{OnWantOfMemory}
use Rattle.apl_verbs.specs.declared.verb.Verb.{Verb}
use Rattle.line_trees.specs.Nodes as node
use Rattle.line_trees.specs.Nodes.{PlainNode, plain_node}
use Rattle.line_trees.specs.declared.tree.Fun.{Fun}
use Rattle.line_trees.specs.declared.tree.Fun.TheVariants as fun
use Rattle.line_trees.specs.declared.tree.Node.TheVariants as coded
use Rattle.apl_meaning.specs.Calls.{call}
use Rattle.apl_meaning.specs.Expressions.{Found, valued}
use Rattle.apl_meaning.specs.Nodes.{Values, apply_step, assign_step, leaving_values, node_step}
use Rattle.apl_meaning.specs.State.{State, Outcome}
use Rattle.apl_meaning.specs.Variables.{reference}
use Rattle.apl_values.specs.Parts.{IsConstant}
use Rattle.apl_values.proofs.Constants.{constant_gives}
use Rattle.apl_statements.specs.declared.evaluation.Evaluation.{Evaluation}
use Rattle.apl_statements.specs.Interpreter.{PlainInterpreter, state_at}
use Rattle.apl_statements.specs.Moves.{if_there}
use Rattle.apl_statements.specs.Wants.{IsNoReport, NoReportIsDue}
use Rattle.apl_statements.proofs.Wants.{valued_no_report}
use Rattle.apl_calls.specs.Callings.{MayBeCalled}
use Rattle.apl_machine.specs.Wants.{looks_first, no_lines}
use Rattle.apl_machine.specs.Nexts.{DoesNext, IsNext}
use Rattle.apl_machine.specs.declared.passing.PlainStep.TheVariants as step
use Rattle.apl_machine.proofs.StepParts.{apply_there}
use Rattle.apl_machine.proofs.WantPerforms.{call_free, leaves_free}

-- the next part is one node
pub same_next : (e : Evaluation) (a b : PlainNode) → IsNext e a → IsNext e b → a ≡ b
same_next e a b first second = let some : Some a ≡ Some b = sym first ∙ second in cc

pub node_free : (m : PlainInterpreter) (e : Evaluation) (a b : PlainNode) (values : List PlainArray) → IsNext e a → IsNext e b → NoReportIsDue m (node_step no_lines a values) → NoReportIsDue m (node_step no_lines b values)
node_free m e a b values first second free = subst (λ (n : PlainNode). NoReportIsDue m (node_step no_lines n values)) (same_next e a b first second) free

-- one that takes memory first is not meant
pub not_first : (e : Evaluation) (a b : PlainNode) → IsNext e a → IsNext e b → looks_first a ≡ false → looks_first b ≡ true → ⊥
not_first e a b first second late looks = false≢true (sym late ∙ ap looks_first (same_next e a b first second) ∙ looks)

-- an assignment to items is not meant, and any other is one to its name
pub items_late : (e : Evaluation) (target : List ℕ) (places : Listed (Option ℕ)) (right : ℕ) (b : PlainNode) → IsNext e (plain_node (coded.Assign target (Some places) right)) → IsNext e b → looks_first b ≡ true → ⊥
items_late e target places right b first second looks = not_first e (plain_node (coded.Assign target (Some places) right)) b first second refl looks

pub constant_free : (m : PlainInterpreter) (array : PlainArray) (values : List PlainArray) → IsConstant array → NoReportIsDue m (node_step no_lines (node.constant array.items) values)
constant_free m array values is asked count taken =
    subst (λ (o : Outcome Found). IsNoReport (leaving_values values o)) (sym (constant_gives array (state_at m asked count taken []) is)) tt

pub value_free : (m : PlainInterpreter) (name : List ℕ) (values : List PlainArray) → NoReportIsDue m (reference name) → NoReportIsDue m (node_step no_lines (node.value name) values)
value_free m name values free asked count taken =
    let s : State = state_at m asked count taken [] in
    leaves_free values (valued (reference name s)) (valued_no_report (reference name s) (free asked count taken))

pub niladic_free : (m : PlainInterpreter) (name : List ℕ) (values : List PlainArray) → MayBeCalled m.workspace name (record { left = None; right = None }) → NoReportIsDue m (node_step no_lines (node.niladic name) values)
niladic_free m name values may asked count taken =
    leaves_free values (call no_lines name (record { left = None; right = None }) (state_at m asked count taken [])) (call_free m name (record { left = None; right = None }) may asked count taken)

pub apply_free : (m : PlainInterpreter) (f : Fun) (left : Option ℕ) (right : ℕ) (axis : Option ℕ) (values : List PlainArray) → NoReportIsDue m (apply_step no_lines f (if_there (is_some left)) (if_there (is_some axis)) values)
    → NoReportIsDue m (node_step no_lines (node.apply f left right axis) values)
apply_free m f left right axis values free asked count taken =
    subst (λ (o : Outcome Values). IsNoReport o) (sym (apply_there no_lines f left axis values (state_at m asked count taken []))) (free asked count taken)

-- a call that is refused by a report alone does not run out of memory
pub told_first : {T : Type 0} (r : Result T Fail) (report : Report) (more : Type 0) (fact : Type 0) → IfErr r (λ why. (why ≡ fail.Report report) × more) → OnWantOfMemory r fact
told_first (Ok value) report more fact told = tt
told_first (Err (fail.Report other)) report more fact told = tt
told_first (Err fail.WantOfMemory) report more fact told = absurd (let no : fail.WantOfMemory ≡ fail.Report report = told.0 in cc)

-- a primitive function that is the next part
pub verb_due : (m : PlainInterpreter) (e : Evaluation) (verb : Verb) (has_left has_axis : Bool) (n : PlainNode) (values : List PlainArray) → DoesNext e (step.Applies verb has_left has_axis) → IsNext e n
    → NoReportIsDue m (apply_step no_lines (fun.Verb verb) (if_there has_left) (if_there has_axis) values) → NoReportIsDue m (node_step no_lines n values)
verb_due m e verb has_left has_axis n values d next free =
    let left : Option ℕ = d.does.0 in
    let axis : Option ℕ = d.does.2 in
    let here : Bool → Bool → Type 0 = λ a b. NoReportIsDue m (apply_step no_lines (fun.Verb verb) (if_there a) (if_there b) values) in
    node_free m e (node.apply (fun.Verb verb) left d.does.1 axis) n values (subst (IsNext e) d.does.3 d.is) next
    (apply_free m (fun.Verb verb) left d.does.1 axis values (subst (λ (b : Bool). here (is_some left) b) (sym d.does.5) (subst (λ (a : Bool). here a has_axis) (sym d.does.4) free)))

-- an assignment to a name that is the next part
pub assign_due : (m : PlainInterpreter) (e : Evaluation) (name : List ℕ) (n : PlainNode) (values : List PlainArray) → DoesNext e (step.Assigns name) → IsNext e n → NoReportIsDue m (assign_step name values) → NoReportIsDue m (node_step no_lines n values)
assign_due m e name n values d next free = node_free m e (node.assign name d.does.0) n values (subst (IsNext e) d.does.1 d.is) next free
