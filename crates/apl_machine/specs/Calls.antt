-- The next part of a statement where it calls a function that a name stands for.
use Rattle.std.specs.Prelude.{◌≡◌, ℕ, List, Bool, false, Option, None, is_some}
use Rattle.line_trees.specs.Nodes as node
use Rattle.line_trees.specs.Nodes.{PlainNode}
use Rattle.line_trees.specs.declared.tree.Fun.TheVariants as fun
use Rattle.apl_statements.specs.declared.evaluation.Evaluation.{Evaluation}
use Rattle.apl_machine.specs.Nexts.{IsNext}

-- a node calls the function of this name, with a left argument or without, and along no axis
abbrev pub IsCallOf : PlainNode → List ℕ → Bool → Type 0
IsCallOf n name has_left = (left : Option ℕ) × (right : ℕ) × (n ≡ node.apply (fun.Defined name) left right None) × (is_some left ≡ has_left)

-- no value is wanting, and the next part calls the function of this name
pub record CallsNext (e : Evaluation) (name : List ℕ) (has_left : Bool) : Type 0 where
  pub there : e.is_wanting ≡ false
  pub which : PlainNode
  pub is : IsNext e which
  pub calls : IsCallOf which name has_left
