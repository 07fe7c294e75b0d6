-- Trees of lines, inductively, and their nodes in the order of evaluation.
use Rattle.std.specs.Prelude.{◌++◌, ℕ, List, [], ◌∷◌, Option, Some, None, length, slice_index_or}
use Rattle.apl_arrays.specs.Array.{PlainItems}
use Rattle.line_trees.specs.declared.tree.Fun.{Fun}
use Rattle.line_trees.specs.declared.tree.Form.{Form}
use Rattle.line_trees.specs.declared.tree.Form.TheVariants as form
use Rattle.line_trees.specs.Nodes as node
use Rattle.line_trees.specs.Nodes.{PlainNode}
use Rattle.line_trees.specs.Parsing.{PlainTree}

mutual
  -- an expression: a constant, a name of a value or of a niladic function, an expression in parentheses or with subscripts, a monadic or dyadic function of its arguments, perhaps along an axis, or an assignment to a name or to the items of a name
  pub data Expr : Type 0 where
    constant : PlainItems → Expr
    value : List ℕ → Expr
    niladic : List ℕ → Expr
    paren : Expr → Expr
    indexed : Expr → Subscripts → Expr
    monadic : Fun → Expr → Expr
    monadic_along : Fun → Expr → Expr → Expr
    dyadic : Fun → Expr → Expr → Expr
    dyadic_along : Fun → Expr → Expr → Expr → Expr
    assign : List ℕ → Expr → Expr
    assign_at : List ℕ → Subscripts → Expr → Expr

  -- subscripts in the order of the text, each given or omitted
  pub data Subscripts : Type 0 where
    no_more : Subscripts
    omitted : Subscripts → Subscripts
    given : Expr → Subscripts → Subscripts

-- what a line does
pub data Statement : Type 0 where
  nothing : Statement
  branch : Expr → Statement
  whole : Expr → Statement
  execute : Expr → Statement

-- a line: perhaps a label, and a statement
pub record LineTree : Type 0 where
  pub label : Option (List ℕ)
  pub statement : Statement

-- nodes, and the number of the last one
abbrev pub Placed : Type 0
Placed = List PlainNode × ℕ

-- nodes, and the numbers of those that are subscripts
abbrev pub PlacedList : Type 0
PlacedList = List PlainNode × List (Option ℕ)

-- a subscript before others
abbrev pub list_with : Option ℕ → List PlainNode → List (Option ℕ) → PlacedList
list_with place nodes places = (nodes, place ∷ places)

-- a node behind others
abbrev pub with_node : List PlainNode → PlainNode → Placed
with_node nodes n = (nodes ++ n ∷ [], length nodes)

-- the nodes of a tree behind others, in the order of evaluation: the right argument, the axis, the left argument, then the function; the subscripts, the last one first, then what they index; the right side, the subscripts, then the target
abbrev mutual
  pub placed : List PlainNode → Expr → Placed
  placed nodes (constant items) = with_node nodes (node.constant items)
  placed nodes (value n) = with_node nodes (node.value n)
  placed nodes (niladic n) = with_node nodes (node.niladic n)
  placed nodes (paren e) = (λ (e : Placed). with_node e.0 (node.paren e.1)) (placed nodes e)
  placed nodes (indexed v subs) = (λ (s : PlacedList). (λ (v : Placed). with_node v.0 (node.indexed v.1 s.1)) (placed s.0 v)) (placed_subscripts nodes subs)
  placed nodes (monadic f right) = (λ (r : Placed). with_node r.0 (node.apply f None r.1 None)) (placed nodes right)
  placed nodes (monadic_along f axis right) = (λ (r : Placed). (λ (k : Placed). with_node k.0 (node.apply f None r.1 (Some k.1))) (placed r.0 axis)) (placed nodes right)
  placed nodes (dyadic f left right) = (λ (r : Placed). (λ (l : Placed). with_node l.0 (node.apply f (Some l.1) r.1 None)) (placed r.0 left)) (placed nodes right)
  placed nodes (dyadic_along f left axis right) =
      (λ (r : Placed). (λ (k : Placed). (λ (l : Placed). with_node l.0 (node.apply f (Some l.1) r.1 (Some k.1))) (placed k.0 left)) (placed r.0 axis)) (placed nodes right)
  placed nodes (assign target right) = (λ (r : Placed). with_node r.0 (node.assign target r.1)) (placed nodes right)
  placed nodes (assign_at target subs right) = (λ (r : Placed). (λ (s : PlacedList). with_node s.0 (node.assign_at target s.1 r.1)) (placed_subscripts r.0 subs)) (placed nodes right)

  pub placed_subscripts : List PlainNode → Subscripts → PlacedList
  placed_subscripts nodes no_more = (nodes, [])
  placed_subscripts nodes (omitted more) = (λ (m : PlacedList). list_with None m.0 m.1) (placed_subscripts nodes more)
  placed_subscripts nodes (given e more) = (λ (m : PlacedList). (λ (p : Placed). list_with (Some p.1) p.0 m.1) (placed m.0 e)) (placed_subscripts nodes more)

-- a tree of a form
abbrev pub tree_with : Option (List ℕ) → Form → List PlainNode → PlainTree
tree_with label f nodes = record { label = label; form = f; nodes = nodes }

-- the form and the nodes of a statement behind a label
abbrev pub nodes_of_statement : Option (List ℕ) → Statement → PlainTree
nodes_of_statement label nothing = tree_with label form.Nothing []
nodes_of_statement label (branch e) = (λ (p : Placed). tree_with label (form.Branch p.1) p.0) (placed [] e)
nodes_of_statement label (whole e) = (λ (p : Placed). tree_with label (form.Value p.1) p.0) (placed [] e)
nodes_of_statement label (execute e) = (λ (p : Placed). tree_with label (form.Execute p.1) p.0) (placed [] e)

-- the tree of a line as nodes
abbrev pub as_nodes : LineTree → PlainTree
as_nodes line = nodes_of_statement line.label line.statement

-- ---- the tree for which nodes stand

-- the tree of a number among those made so far
abbrev pub tree_at : List Expr → ℕ → Expr
tree_at made k = slice_index_or made k (value [])

-- the subscripts of these numbers
abbrev pub subscripts_at : List Expr → List (Option ℕ) → Subscripts
subscripts_at made [] = no_more
subscripts_at made (None ∷ places) = omitted (subscripts_at made places)
subscripts_at made (Some k ∷ places) = given (tree_at made k) (subscripts_at made places)

-- the tree of a function of the trees of these numbers
abbrev pub applied_at : List Expr → Fun → Option ℕ → ℕ → Option ℕ → Expr
applied_at made f None right None = monadic f (tree_at made right)
applied_at made f None right (Some axis) = monadic_along f (tree_at made axis) (tree_at made right)
applied_at made f (Some left) right None = dyadic f (tree_at made left) (tree_at made right)
applied_at made f (Some left) right (Some axis) = dyadic_along f (tree_at made left) (tree_at made axis) (tree_at made right)

-- the tree of a node, by the trees of the nodes before it
abbrev pub expr_of : List Expr → PlainNode → Expr
expr_of made (node.constant items) = constant items
expr_of made (node.value n) = value n
expr_of made (node.niladic n) = niladic n
expr_of made (node.paren e) = paren (tree_at made e)
expr_of made (node.indexed v places) = indexed (tree_at made v) (subscripts_at made places)
expr_of made (node.apply f left right axis) = applied_at made f left right axis
expr_of made (node.assign target right) = assign target (tree_at made right)
expr_of made (node.assign_at target places right) = assign_at target (subscripts_at made places) (tree_at made right)

-- the trees of nodes behind others of which the trees are made
unfoldable pub trees_from : List Expr → List PlainNode → List Expr
trees_from made [] = made
trees_from made (n ∷ nodes) = trees_from (made ++ expr_of made n ∷ []) nodes

-- the tree for which a node stands, by its number
abbrev pub tree_numbered : List PlainNode → ℕ → Expr
tree_numbered nodes k = tree_at (trees_from [] nodes) k

-- the statement of a form
abbrev pub statement_of : List PlainNode → Form → Statement
statement_of nodes form.Nothing = nothing
statement_of nodes (form.Branch k) = branch (tree_numbered nodes k)
statement_of nodes (form.Value k) = whole (tree_numbered nodes k)
statement_of nodes (form.Execute k) = execute (tree_numbered nodes k)

-- the line for which a label, a form and nodes stand
abbrev pub line_tree_of : PlainTree → LineTree
line_tree_of tree = record { label = tree.label; statement = statement_of tree.nodes tree.form }
