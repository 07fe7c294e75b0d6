-- The tree of a line, or the place of its error, computed.
use Rattle.std.specs.Prelude.{◌≡◌, ℕ, List, [], Option, Some, Result, Ok, Err}
use Rattle.line_scanner.specs.Token.{PlainToken}
use Rattle.line_trees.specs.declared.class.Class.{Class}
use Rattle.line_trees.specs.declared.tree.Form.{Form}
use Rattle.line_trees.specs.declared.tree.Form.TheVariants as form
use Rattle.line_trees.specs.declared.tree.Tree.{Tree}
use Rattle.line_trees.specs.declared.refused.ParseRefused.{ParseRefused}
use Rattle.line_trees.specs.declared.refused.ParseRefused.TheVariants.{SyntaxError, WantOfMemory}
use Rattle.line_trees.specs.declared.machine.Before.TheVariants as before
use Rattle.line_trees.specs.declared.machine.Mode.TheVariants.{Begins}
use Rattle.line_trees.specs.declared.tree.Pending.{Pending}
use Rattle.line_trees.specs.declared.tree.Pending.TheVariants as pending
use Rattle.apl_arrays.specs.List.{first_of}
use Rattle.line_trees.specs.Nodes.{PlainNode}
use Rattle.line_trees.specs.Marks.{Marked, marks_from}
use Rattle.line_trees.specs.Building.{Built, built_from}

-- a tree, whatever room is left in its lists
pub record PlainTree : Type 0 where
  pub label : Option (List ℕ)
  pub form : Form
  pub nodes : List PlainNode

-- a tree, whatever room is left in its lists
abbrev pub plain_tree : Tree → PlainTree
plain_tree t = record { label = t.label; form = t.form; nodes = t.nodes.items }

-- the form of a statement, by what waits when all is read
abbrev pub form_of : Option Pending → Form
form_of (Some (pending.Expr axis n)) = form.Value n
form_of (Some (pending.Branch n)) = form.Branch n
form_of (Some (pending.Execute n)) = form.Execute n
form_of first = form.Nothing

-- the tree of what was built
abbrev pub tree_of : Built → PlainTree
tree_of b = record { label = b.label; form = form_of (first_of b.waiting); nodes = b.nodes }

-- the tree of a line, or the place of its error
abbrev pub Parsed : Type 0
Parsed = Result PlainTree ℕ

-- the tree that the marks of a line build, or the place of its error
abbrev pub parsed_by : List Class → Marked → List PlainToken → Parsed
parsed_by classes (Ok marks) tokens = Ok (tree_of (built_from classes marks tokens))
parsed_by classes (Err at) tokens = Err at

-- the tree of the tokens of a line of this length, by the classes of its names, or the place of its error
abbrev pub parsed : List Class → List PlainToken → ℕ → Parsed
parsed classes tokens length = parsed_by classes (marks_from classes length (Begins before.Line) [] tokens) tokens

-- why a line was refused is its error, unless memory ran out
abbrev pub IsRefusal : ParseRefused → Parsed → Type 0
IsRefusal (SyntaxError at) p = p ≡ Err at
IsRefusal WantOfMemory p = Unit {0}
