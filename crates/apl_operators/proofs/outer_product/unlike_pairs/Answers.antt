use Rattle.std.proofs.Common.{false, ◌∙◌}
use Rattle.apl_scalar.specs.Table.{item_of_chars}
use Rattle.apl_operators.proofs.outer_product.unlike_pairs.Goals as goal

pub returns : goal.returns
returns c = c.numbers_by_rows.ensures (λ place. item_of_chars c.args.f false) (λ place answer below told. told ∙ c.character_of-item.ensures)
