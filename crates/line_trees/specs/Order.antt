-- The order of nodes: each stands after those that it names.
use Rattle.std.specs.Prelude.{◌<◌, ◌+◌, ℕ, List, [], ◌∷◌, Option, Some, None, length}
use Rattle.line_trees.specs.declared.tree.Form.{Form}
use Rattle.line_trees.specs.declared.tree.Form.TheVariants as form
use Rattle.line_trees.specs.Nodes as node
use Rattle.line_trees.specs.Nodes.{PlainNode}
use Rattle.line_trees.specs.Parsing.{PlainTree}

-- the number, where there is one, is less than this
abbrev pub IsBelow : ℕ → Option ℕ → Type 0
IsBelow bound None = Unit {0}
IsBelow bound (Some k) = k < bound

-- the numbers of the subscripts are less than this
abbrev pub AreBelow : ℕ → List (Option ℕ) → Type 0
AreBelow bound [] = Unit {0}
AreBelow bound (place ∷ places) = IsBelow bound place × AreBelow bound places

-- the node names only nodes of numbers less than this
abbrev pub NamesBelow : ℕ → PlainNode → Type 0
NamesBelow bound (node.constant items) = Unit {0}
NamesBelow bound (node.value n) = Unit {0}
NamesBelow bound (node.niladic n) = Unit {0}
NamesBelow bound (node.paren e) = e < bound
NamesBelow bound (node.indexed v places) = (v < bound) × AreBelow bound places
NamesBelow bound (node.apply f left right axis) = IsBelow bound left × (right < bound) × IsBelow bound axis
NamesBelow bound (node.assign target right) = right < bound
NamesBelow bound (node.assign_at target places right) = AreBelow bound places × (right < bound)

-- each of the nodes, the first of which has this number, names only nodes before it
abbrev pub NameEarlier : ℕ → List PlainNode → Type 0
NameEarlier at [] = Unit {0}
NameEarlier at (n ∷ nodes) = NamesBelow at n × NameEarlier (at + 1) nodes

-- the whole expression of a statement is a node of a number less than this
abbrev pub IsFormBelow : ℕ → Form → Type 0
IsFormBelow bound form.Nothing = Unit {0}
IsFormBelow bound (form.Branch k) = k < bound
IsFormBelow bound (form.Value k) = k < bound
IsFormBelow bound (form.Execute k) = k < bound

-- each node of a tree names only nodes before it, and its form names one of them
pub record IsTreeInOrder (tree : PlainTree) : Type 0 where
  pub nodes : NameEarlier 0 tree.nodes
  pub form : IsFormBelow (length tree.nodes) tree.form
