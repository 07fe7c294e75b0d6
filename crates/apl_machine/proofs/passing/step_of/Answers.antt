use Rattle.std.proofs.Common.{◌≡◌, ℕ, Option, ap, ◌∙◌}
use Rattle.std.specs.Prelude.{is_some}
use Rattle.apl_arrays.specs.List.{Listed}
use Rattle.line_trees.specs.Nodes as node
use Rattle.line_trees.specs.Nodes.{plain_node}
use Rattle.line_trees.specs.declared.tree.Fun.{Fun}
use Rattle.line_trees.specs.declared.tree.Node.TheVariants as coded
use Rattle.apl_machine.proofs.passing.step_of.Goals as goal

pub returns-in-Paren : goal.returns-in-Paren
returns-in-Paren c = (c.in-Paren.field-0, ap plain_node c.in-Paren.is)

pub returns-in-Verb : goal.returns-in-Verb
returns-in-Verb c =
    let has_left : is_some c.in-Apply.left ≡ c.is_some.result = cc in
    let has_axis : is_some c.in-Apply.axis ≡ c.is_some-in-Verb.result = cc in
    (c.in-Apply.left, c.in-Apply.right, c.in-Apply.axis, ap plain_node c.in-Apply.is ∙ ap (λ (f : Fun). node.apply f c.in-Apply.left c.in-Apply.right c.in-Apply.axis) c.in-Verb.is, has_left, has_axis)

pub returns-in-None : goal.returns-in-None
returns-in-None c = (c.in-Assign.right, ap plain_node c.in-Assign.is ∙ ap (λ (subs : Option (Listed (Option ℕ))). plain_node (coded.Assign c.in-Assign.target subs c.in-Assign.right)) c.in-None.is)
