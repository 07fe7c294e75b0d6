-- The next part of a statement, and what is to come where none is left.
use Rattle.std.proofs.Common.{◌≡◌, ◌+◌, Bool, true, false, List, [], ◌∷◌, ◌++◌, refl, sym, ap, ◌∙◌}
use Rattle.std.specs.Prelude.{Option, Some, None, drop, is_some, option_to_list}
use Rattle.std.proofs.lemmas.Bool.{false≢true}
use Rattle.apl_arrays.specs.Array.{PlainArray}
use Rattle.apl_arrays.specs.declared.report.Report.TheVariants.{Value}
use Rattle.line_trees.specs.Nodes as node
use Rattle.line_trees.specs.Nodes.{PlainNode}
use Rattle.line_trees.specs.declared.tree.Fun.{Fun}
use Rattle.apl_meaning.specs.State.{State, Outcome, gives, refuses, and_then}
use Rattle.apl_meaning.specs.Tasks.{Next}
use Rattle.apl_meaning.specs.Expressions.{Found, performed, performed_along}
use Rattle.apl_meaning.specs.Nodes.{Values, wanting, after_nodes, apply_step, found_in, leaving_values, node_step, step_by, wanting_step}
use Rattle.apl_meaning.specs.Meaning.{ran}
use Rattle.apl_values.specs.Parts.{is_paren, plain_parts}
use Rattle.apl_statements.specs.declared.evaluation.Evaluation.{Evaluation}
use Rattle.apl_statements.specs.Evaluating.{caller_of, evaluation_of, values_where}
use Rattle.apl_statements.specs.Interpreter.{PlainInterpreter, here}
use Rattle.apl_statements.specs.Moves.{if_there, part_takes}
use Rattle.apl_statements.specs.Stack.{PlainEvaluation, PlainWaiting, after_step, behind, carried_on, onward, put_to}
use Rattle.apl_statements.specs.Holding.{stack_values, parts_of}
use Rattle.apl_statements.proofs.Steps.{node_gives, node_steps}

-- where no node is left, the value is put to its purpose
pub end_of_nodes : (e : PlainEvaluation) (ws : List PlainWaiting) (s : State) → e.nodes ≡ [] → onward e ws s ≡ and_then (put_to e.purpose e.place (found_in e.values) s) (λ next t. behind ws next t)
end_of_nodes e ws s none = ap (λ (nodes : List PlainNode). and_then (and_then (after_nodes ran nodes e.values s) (λ values t. put_to e.purpose e.place (found_in values) t)) (λ next t. behind ws next t)) none

-- where a part is next and no value is wanting, it takes its values
pub next_part : (m : PlainInterpreter) (e : Evaluation) (n : PlainNode) (s : State) → drop e.at (plain_parts (parts_of e)) ≡ n ∷ drop (e.at + 1) (plain_parts (parts_of e)) → e.is_wanting ≡ false
    → onward (evaluation_of m.workspace e) m.stack s ≡ part_takes m (record e { at = e.at + 1 }) (node_step ran n) s
next_part m e n s is there =
    let plain : PlainEvaluation = evaluation_of m.workspace e in
    let nodes : List PlainNode = drop (e.at + 1) (plain_parts (parts_of e)) in
    node_steps plain n nodes m.stack s is
    ∙ ap (λ (wanted : Bool). and_then (step_by ran n (values_where wanted (stack_values m.workspace e)) s) (λ values t. onward (after_step plain nodes values) m.stack t)) there

-- what a part gives above the values that it leaves
pub part_leaves : (m : PlainInterpreter) (e : Evaluation) (values : List PlainArray) (found : Outcome Found)
    → and_then (leaving_values values found) (λ v t. onward (record (evaluation_of m.workspace e) { values = v }) m.stack t) ≡ carried_on found (record (caller_of m.workspace (here m) e) { values = values }) m.stack
part_leaves m e values found = node_gives (evaluation_of m.workspace e) (drop e.at (plain_parts (parts_of e))) values (here m) m.stack found

-- ---- where a value is wanting

paren_passes : (n : PlainNode) (values : List PlainArray) (s : State) → is_paren n ≡ true → wanting_step n values s ≡ gives (wanting values) s
paren_passes (node.constant items) values s is = absurd (false≢true is)
paren_passes (node.value name) values s is = absurd (false≢true is)
paren_passes (node.niladic name) values s is = absurd (false≢true is)
paren_passes (node.paren k) values s is = refl
paren_passes (node.indexed v places) values s is = absurd (false≢true is)
paren_passes (node.apply f left right axis) values s is = absurd (false≢true is)
paren_passes (node.assign name right) values s is = absurd (false≢true is)
paren_passes (node.assign_at name places right) values s is = absurd (false≢true is)

others_want : (n : PlainNode) (values : List PlainArray) (s : State) → is_paren n ≡ false → wanting_step n values s ≡ refuses Value s
others_want (node.constant items) values s is = refl
others_want (node.value name) values s is = refl
others_want (node.niladic name) values s is = refl
others_want (node.paren k) values s is = absurd (false≢true (sym is))
others_want (node.indexed v places) values s is = refl
others_want (node.apply f left right axis) values s is = refl
others_want (node.assign name right) values s is = refl
others_want (node.assign_at name places right) values s is = refl

-- parentheses around a value that is wanting
pub next_around_none : (m : PlainInterpreter) (e : Evaluation) (n : PlainNode) (s : State) → drop e.at (plain_parts (parts_of e)) ≡ n ∷ drop (e.at + 1) (plain_parts (parts_of e)) → e.is_wanting ≡ true → is_paren n ≡ true
    → onward (evaluation_of m.workspace e) m.stack s ≡ onward (evaluation_of m.workspace (record e { at = e.at + 1 })) m.stack s
next_around_none m e n s is there paren =
    let plain : PlainEvaluation = evaluation_of m.workspace e in
    let nodes : List PlainNode = drop (e.at + 1) (plain_parts (parts_of e)) in
    let values : List PlainArray = stack_values m.workspace e in
    let behind_step : Values → State → Outcome Next = λ values t. onward (after_step plain nodes values) m.stack t in
    node_steps plain n nodes m.stack s is
    ∙ ap (λ (wanted : Bool). and_then (step_by ran n (values_where wanted values) s) behind_step) there
    ∙ ap (λ (o : Outcome Values). and_then o behind_step) (paren_passes n values s paren)
    ∙ ap (λ (wanted : Bool). behind_step (values_where wanted values) s) (sym there)

-- any other part where a value is wanting
pub next_wants : (m : PlainInterpreter) (e : Evaluation) (n : PlainNode) (s : State) → drop e.at (plain_parts (parts_of e)) ≡ n ∷ drop (e.at + 1) (plain_parts (parts_of e)) → e.is_wanting ≡ true → is_paren n ≡ false
    → onward (evaluation_of m.workspace e) m.stack s ≡ refuses Value s
next_wants m e n s is there other =
    let plain : PlainEvaluation = evaluation_of m.workspace e in
    let nodes : List PlainNode = drop (e.at + 1) (plain_parts (parts_of e)) in
    let values : List PlainArray = stack_values m.workspace e in
    let behind_step : Values → State → Outcome Next = λ values t. onward (after_step plain nodes values) m.stack t in
    node_steps plain n nodes m.stack s is
    ∙ ap (λ (wanted : Bool). and_then (step_by ran n (values_where wanted values) s) behind_step) there
    ∙ ap (λ (o : Outcome Values). and_then o behind_step) (others_want n values s other)

-- ---- a function takes its arguments

-- a function of its arguments, perhaps along an axis
abbrev pub performed_where : Fun → Found → Option PlainArray → PlainArray → State → Outcome Found
performed_where f left None right s = performed ran f left right None s
performed_where f left (Some axis) right s = performed_along ran f left axis right s

pub performs : (f : Fun) (left axis : Option PlainArray) (right : PlainArray) (values : List PlainArray) (s : State)
    → apply_step ran f (if_there (is_some left)) (if_there (is_some axis)) (option_to_list left ++ (option_to_list axis ++ right ∷ values)) s ≡ leaving_values values (performed_where f left axis right s)
performs f None None right values s = refl
performs f None (Some axis) right values s = refl
performs f (Some left) None right values s = refl
performs f (Some left) (Some axis) right values s = refl
