-- An expression by its nodes, one after another, with the values that no node has taken yet.
use Rattle.std.specs.Prelude.{ℕ, List, [], ◌∷◌, Option, Some, None}
use Rattle.apl_arrays.specs.Array.{PlainArray}
use Rattle.apl_arrays.specs.declared.report.Report.TheVariants.{Value}
use Rattle.apl_selection.specs.Indexing.{selection_of}
use Rattle.line_trees.specs.declared.tree.Fun.{Fun}
use Rattle.line_trees.specs.Nodes as node
use Rattle.line_trees.specs.Nodes.{PlainNode}
use Rattle.apl_meaning.specs.State.{State, Outcome, gives, refuses, and_then, outcome_of}
use Rattle.apl_meaning.specs.Variables.{assignment, items_assignment, reference}
use Rattle.apl_meaning.specs.Tasks.{Run}
use Rattle.apl_meaning.specs.Calls.{call}
use Rattle.apl_meaning.specs.Expressions.{Found, constant_outcome, performed, performed_along, valued}

-- the values that no node has taken yet, the newest first; the last node may have given none
pub data Values : Type 0 where
  ready : List PlainArray → Values
  wanting : List PlainArray → Values

-- what a node gave, before the others
abbrev pub with_found : Found → List PlainArray → Values
with_found None values = wanting values
with_found (Some v) values = ready (v ∷ values)

-- a node gives this, before the values that it left
abbrev pub leaving_values : List PlainArray → Outcome Found → Outcome Values
leaving_values values found = and_then found (λ v s. gives (with_found v values) s)

-- subscripts and the values behind them
pub record Popped : Type 0 where
  pub subs : List (Option PlainArray)
  pub values : List PlainArray

-- one more subscript, given or omitted
abbrev pub with_sub : Option PlainArray → Popped → Popped
with_sub sub popped = record { subs = sub ∷ popped.subs; values = popped.values }

-- the subscripts at the front, the first one first; one that is omitted has no value
abbrev pub popped : List (Option ℕ) → List PlainArray → Popped
popped [] values = record { subs = []; values = values }
popped (None ∷ places) values = with_sub None (popped places values)
popped (Some k ∷ places) [] = with_sub None (popped places [])
popped (Some k ∷ places) (v ∷ values) = with_sub (Some v) (popped places values)

-- ---- the step of a node that takes values

-- a function of one value
abbrev pub monadic_step : Run → Fun → List PlainArray → State → Outcome Values
monadic_step run f [] s = refuses Value s
monadic_step run f (right ∷ values) s = leaving_values values (performed run f None right None s)

-- a function of one value along an axis, which was evaluated last
abbrev pub monadic_along_step : Run → Fun → List PlainArray → State → Outcome Values
monadic_along_step run f (axis ∷ right ∷ values) s = leaving_values values (performed_along run f None axis right s)
monadic_along_step run f values s = refuses Value s

-- a function of two values, of which the left one was evaluated last
abbrev pub dyadic_step : Run → Fun → List PlainArray → State → Outcome Values
dyadic_step run f (left ∷ right ∷ values) s = leaving_values values (performed run f (Some left) right None s)
dyadic_step run f values s = refuses Value s

-- a function of two values along an axis: the right one, the axis and the left one were evaluated in this order
abbrev pub dyadic_along_step : Run → Fun → List PlainArray → State → Outcome Values
dyadic_along_step run f (left ∷ axis ∷ right ∷ values) s = leaving_values values (performed_along run f (Some left) axis right s)
dyadic_along_step run f values s = refuses Value s

-- a function of one or two values, perhaps along an axis
abbrev pub apply_step : Run → Fun → Option ℕ → Option ℕ → List PlainArray → State → Outcome Values
apply_step run f None None values s = monadic_step run f values s
apply_step run f None (Some axis) values s = monadic_along_step run f values s
apply_step run f (Some left) None values s = dyadic_step run f values s
apply_step run f (Some left) (Some axis) values s = dyadic_along_step run f values s

-- the value that is indexed, and then its subscripts
abbrev pub indexed_step : List (Option ℕ) → List PlainArray → State → Outcome Values
indexed_step places [] s = refuses Value s
indexed_step places (array ∷ values) s = leaving_values (popped places values).values (valued (outcome_of (selection_of array (popped places values).subs) s))

-- an assignment of the right side
abbrev pub assign_step : List ℕ → List PlainArray → State → Outcome Values
assign_step name [] s = refuses Value s
assign_step name (right ∷ values) s = leaving_values values (and_then (assignment name right s) (λ _ s. gives (Some right) s))

-- subscripts, and then the right side
abbrev pub items_step : List ℕ → List (Option PlainArray) → List PlainArray → State → Outcome Values
items_step name subs [] s = refuses Value s
items_step name subs (right ∷ values) s = leaving_values values (and_then (items_assignment name subs right s) (λ _ s. gives (Some right) s))

-- the step of a node, where no value is wanting
abbrev pub node_step : Run → PlainNode → List PlainArray → State → Outcome Values
node_step run (node.constant items) values s = leaving_values values (valued (constant_outcome items s))
node_step run (node.value name) values s = leaving_values values (valued (reference name s))
node_step run (node.niladic name) values s = leaving_values values (call run name (record { left = None; right = None }) s)
node_step run (node.paren k) values s = gives (ready values) s
node_step run (node.indexed v places) values s = indexed_step places values s
node_step run (node.apply f left right axis) values s = apply_step run f left axis values s
node_step run (node.assign name right) values s = assign_step name values s
node_step run (node.assign_at name places right) values s = items_step name (popped places values).subs (popped places values).values s

-- the step of a node where a value is wanting: only parentheses stand around none
abbrev pub wanting_step : PlainNode → List PlainArray → State → Outcome Values
wanting_step (node.constant items) values s = refuses Value s
wanting_step (node.value name) values s = refuses Value s
wanting_step (node.niladic name) values s = refuses Value s
wanting_step (node.paren k) values s = gives (wanting values) s
wanting_step (node.indexed v places) values s = refuses Value s
wanting_step (node.apply f left right axis) values s = refuses Value s
wanting_step (node.assign name right) values s = refuses Value s
wanting_step (node.assign_at name places right) values s = refuses Value s

-- the step of a node
abbrev pub step_by : Run → PlainNode → Values → State → Outcome Values
step_by run n (ready values) s = node_step run n values s
step_by run n (wanting values) s = wanting_step n values s

-- nodes one after another
abbrev pub after_nodes : Run → List PlainNode → Values → State → Outcome Values
after_nodes run [] values s = gives values s
after_nodes run (n ∷ nodes) values s = and_then (step_by run n values s) (λ values s. after_nodes run nodes values s)

-- what nodes give: the one value that is left, or none
abbrev pub found_in : Values → Found
found_in (ready []) = None
found_in (ready (v ∷ values)) = Some v
found_in (wanting values) = None
