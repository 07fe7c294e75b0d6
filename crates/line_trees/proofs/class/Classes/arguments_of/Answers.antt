use Rattle.std.proofs.Common.{◌∙◌, sym, ap, List}
use Rattle.line_trees.specs.declared.class.Class.{Class}
use Rattle.line_trees.specs.Classes.{arguments_where}
use Rattle.line_trees.specs.Symbols.{arguments_of}
use Rattle.line_trees.proofs.ClassesInOrder.{found}
use Rattle.line_trees.proofs.class.Classes.arguments_of.Goals as goal

pub returns : goal.returns
returns c =
    let n = c.args.name.now in
    c.arguments_where.ensures ∙ ap (arguments_where n) c.first_not_before.ensures ∙ sym (found n c.as_slice.result.now c.as_slice.ensures.ascending) ∙ ap (λ (l : List Class). arguments_of l n) c.as_slice.ensures.items
