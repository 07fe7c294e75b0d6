use Rattle.std.proofs.Common.{◌≡◌, Bool, Option, ℕ, sym, ap, ◌∙◌}
use Rattle.std.specs.Prelude.{is_some}
use Rattle.line_trees.specs.Nodes as node
use Rattle.line_trees.specs.Nodes.{plain_node}
use Rattle.line_trees.specs.declared.tree.Fun.{Fun}
use Rattle.apl_machine.proofs.CallsNext.{call_is}
use Rattle.apl_machine.proofs.calls.call_in.Goals as goal

pub returns-in-None : goal.returns-in-None
returns-in-None c =
    let has_left : is_some c.in-Apply.left ≡ c.is_some.result = cc in
    call_is (plain_node c.args.node.now) c.in-Apply.function c.in-Apply.left c.in-Apply.right c.is_some.result c.defined.result (ap plain_node c.in-Apply.is ∙ ap (λ (axis : Option ℕ). node.apply c.in-Apply.function c.in-Apply.left c.in-Apply.right axis) c.in-None.is) has_left c.defined.ensures
