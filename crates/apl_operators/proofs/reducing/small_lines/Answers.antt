use Rattle.std.proofs.Common.{◌-◌, ◌/◌, ◌%◌}
use Rattle.apl_verbs.specs.declared.verb.Dyad.TheVariants.{Plus}
use Rattle.apl_scalar.specs.Table.{dyadic_item}
use Rattle.operator_rules.specs.Reduction.{front_of_line}
use Rattle.apl_operators.proofs.LineLemmas.{number_lines_answer}
use Rattle.apl_operators.proofs.reducing.small_lines.Goals as goal

pub returns : goal.returns
returns c =
    let split = c.args.split in
    number_lines_answer Plus c.args.list.now split c.args.shape.now c.numbers_by_rows.result c.requires.some
    (c.numbers_by_rows.ensures (λ line. front_of_line (dyadic_item Plus) c.args.list.now split (line / split.inner) (line % split.inner) (split.along - 1)) (λ place answer below told. told))
