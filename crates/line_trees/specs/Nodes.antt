-- Trees as nodes in the order of evaluation.
use Rattle.std.specs.Prelude.{ℕ, List, Option, Some, None}
use Rattle.apl_arrays.specs.Array.{PlainItems, plain_items}
use Rattle.line_trees.specs.declared.tree.Fun.{Fun}
use Rattle.line_trees.specs.declared.tree.Node.{Node}
use Rattle.line_trees.specs.declared.tree.Node.TheVariants as node

-- a node, whatever room is left in its lists
pub data PlainNode : Type 0 where
  constant : PlainItems → PlainNode
  value : List ℕ → PlainNode
  niladic : List ℕ → PlainNode
  paren : ℕ → PlainNode
  indexed : ℕ → List (Option ℕ) → PlainNode
  apply : Fun → Option ℕ → ℕ → Option ℕ → PlainNode
  assign : List ℕ → ℕ → PlainNode
  assign_at : List ℕ → List (Option ℕ) → ℕ → PlainNode

-- a node, whatever room is left in its lists
abbrev pub plain_node : Node → PlainNode
plain_node (node.Constant items) = constant (plain_items items)
plain_node (node.Value n) = value n
plain_node (node.Niladic n) = niladic n
plain_node (node.Paren inner) = paren inner
plain_node (node.Indexed v subs) = indexed v subs.items
plain_node (node.Apply function left right axis) = apply function left right axis
plain_node (node.Assign target None right) = assign target right
plain_node (node.Assign target (Some subs) right) = assign_at target subs.items right
