use Rattle.std.proofs.Common.{◌∙◌}
use Rattle.apl_arrays.specs.Array.{chars}
use Rattle.operator_rules.specs.Gathering.{number_in}
use Rattle.operator_rules.specs.Reduce.{reduced_line}
use Rattle.apl_operators.proofs.LineLemmas.{char_line_is, long_lines_answer}
use Rattle.apl_operators.proofs.reducing.char_lines_by.Goals as goal

pub returns : goal.returns
returns g c =
    let split = c.args.split in
    let list = c.args.list.now in
    long_lines_answer c.args.f list split c.args.shape.now c.numbers_by_rows.result c.requires.some
    (c.numbers_by_rows.ensures (λ line. number_in (reduced_line c.args.f (chars list) split line)) (λ line answer below told. told ∙ char_line_is c.args.f list split line c.requires.some))
