-- What waits to the right of an expression.
use Rattle.std.proofs.Common.{◌≡◌, ℕ, List, [], ◌∷◌, ◌++◌, Option, None, refl, ap, ◌∙◌, length}
use Rattle.line_trees.specs.declared.tree.Pending.{Pending}
use Rattle.line_trees.specs.declared.tree.Pending.TheVariants as pending
use Rattle.apl_arrays.specs.List.{first_of, others_of}
use Rattle.line_trees.specs.Nodes.{PlainNode}
use Rattle.line_trees.specs.Nodes as node
use Rattle.line_trees.specs.Building.{Numbers, Built, whole_expression, attached, name_built, subscript_built, subscripts, behind_subscripts, target_or_operand, subscripts_built}

-- neither a label nor a target is waited for
abbrev pub IsOpen : List Pending → Type 0
IsOpen (pending.Label ∷ waiting) = ⊥
IsOpen (pending.Gets right ∷ waiting) = ⊥
IsOpen (pending.GetsAt right ∷ waiting) = ⊥
IsOpen waiting = Unit {0}

-- nothing waits within the last bracket
abbrev pub IsClosed : List Pending → Type 0
IsClosed [] = Unit {0}
IsClosed (pending.Parenthesis ∷ waiting) = Unit {0}
IsClosed (pending.Axis ∷ waiting) = Unit {0}
IsClosed (pending.Subscripts ∷ waiting) = Unit {0}
IsClosed (pending.Subscript place ∷ waiting) = Unit {0}
IsClosed waiting = ⊥

pub closed_open : (waiting : List Pending) → IsClosed waiting → IsOpen waiting
closed_open [] h = tt
closed_open (pending.Parenthesis ∷ waiting) h = tt
closed_open (pending.Axis ∷ waiting) h = tt
closed_open (pending.Subscripts ∷ waiting) h = tt
closed_open (pending.Subscript place ∷ waiting) h = tt
closed_open waiting h = absurd h

-- an operand to which nothing waits is a whole expression
pub closed_attached : (label : Option (List ℕ)) (v : ℕ) (nodes : List PlainNode) (waiting : List Pending) (lists : List Numbers) → IsClosed waiting
    → attached label v nodes waiting lists ≡ record { label = label; nodes = nodes; waiting = whole_expression v ∷ waiting; lists = lists }
unfolding attached
closed_attached label v nodes [] lists h = refl
closed_attached label v nodes (pending.Parenthesis ∷ waiting) lists h = refl
closed_attached label v nodes (pending.Axis ∷ waiting) lists h = refl
closed_attached label v nodes (pending.Subscripts ∷ waiting) lists h = refl
closed_attached label v nodes (pending.Subscript place ∷ waiting) lists h = refl
closed_attached label v nodes waiting lists h = absurd h

-- a name that is no label and no target is an operand
pub open_name : (n : List ℕ) (label : Option (List ℕ)) (nodes : List PlainNode) (waiting : List Pending) (lists : List Numbers) → IsOpen waiting
    → name_built n (record { label = label; nodes = nodes; waiting = waiting; lists = lists }) (first_of waiting) (others_of waiting) ≡ attached label (length nodes) (nodes ++ node.value n ∷ []) waiting lists
open_name n label nodes (pending.Label ∷ waiting) lists h = absurd h
open_name n label nodes (pending.Gets right ∷ waiting) lists h = absurd h
open_name n label nodes (pending.GetsAt right ∷ waiting) lists h = absurd h
open_name n label nodes waiting lists h = refl

-- subscripts before no target wait for an operand
pub open_indexing : (waiting : List Pending) → IsOpen waiting → target_or_operand waiting (first_of waiting) (others_of waiting) ≡ pending.Indexing ∷ waiting
open_indexing (pending.Gets right ∷ waiting) h = absurd h
open_indexing waiting h = refl

-- subscripts before others
abbrev pub with_subscripts : Numbers → List Pending → List Pending
with_subscripts [] waiting = waiting
with_subscripts (place ∷ places) waiting = pending.Subscript place ∷ with_subscripts places waiting

-- subscripts, and the bracket that closes them
abbrev pub listed : Numbers → List Pending → List Pending
listed places waiting = with_subscripts places (pending.Subscripts ∷ waiting)

pub listed_closed : (places : Numbers) (waiting : List Pending) → IsClosed (listed places waiting)
listed_closed [] waiting = tt
listed_closed (place ∷ places) waiting = tt

-- an omitted subscript before others
pub listed_omitted : (places : Numbers) (waiting : List Pending) → subscript_built (listed places waiting) (first_of (listed places waiting)) (others_of (listed places waiting)) ≡ listed (None ∷ places) waiting
listed_omitted [] waiting = refl
listed_omitted (place ∷ places) waiting = refl

listed_subscripts : (places : Numbers) (waiting : List Pending) → subscripts (listed places waiting) ≡ places
listed_subscripts [] waiting = refl
listed_subscripts (place ∷ places) waiting = ap (λ (x : Numbers). place ∷ x) (listed_subscripts places waiting)

listed_behind : (places : Numbers) (waiting : List Pending) → behind_subscripts (listed places waiting) ≡ pending.Subscripts ∷ waiting
listed_behind [] waiting = refl
listed_behind (place ∷ places) waiting = listed_behind places waiting

-- a list of subscripts that is read
pub listed_built : (b : Built) (places : Numbers) (waiting : List Pending)
    → subscripts_built b (listed places waiting) ≡ record { label = b.label; nodes = b.nodes; waiting = target_or_operand waiting (first_of waiting) (others_of waiting); lists = places ∷ b.lists }
listed_built b places waiting =
    ap (λ (x : List Pending). made (target_or_operand (others_of x) (first_of (others_of x)) (others_of (others_of x))) (subscripts (listed places waiting))) (listed_behind places waiting)
    ∙ ap (λ (x : Numbers). made (target_or_operand waiting (first_of waiting) (others_of waiting)) x) (listed_subscripts places waiting)
  where
    made : List Pending → Numbers → Built
    made waiting places = record { label = b.label; nodes = b.nodes; waiting = waiting; lists = places ∷ b.lists }
