use Rattle.std.proofs.Common.{rules, ◌∙◌}
use Rattle.std.proofs.lemmas.List.Sorted.{IsPartitionPoint-from_clause}
use Rattle.line_trees.specs.declared.class.Class.{Class}
use Rattle.line_trees.specs.Classes.{is_before}
use Rattle.line_trees.proofs.ClassesInOrder.{parted, at_point}
use Rattle.line_trees.proofs.class.first_not_before.Goals as goal

pub returns : goal.returns
returns c =
    let n = c.args.name.now in
    let classes = c.args.classes.now in
    let at = c.partition_point-at.result in
    let point = IsPartitionPoint-from_clause (λ (class : Class). is_before class.name n) classes at c.partition_point-at.ensures.partitioned (parted n classes c.requires) (λ a r f q. search rules) in
    c.class_at.ensures ∙ at_point n classes at c.partition_point-at.ensures.bound point
