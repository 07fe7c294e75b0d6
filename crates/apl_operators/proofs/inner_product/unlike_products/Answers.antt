use Rattle.std.proofs.Common.{false, ◌∙◌}
use Rattle.apl_scalar.specs.Table.{item_of_chars}
use Rattle.apl_operators.proofs.inner_product.unlike_products.Goals as goal

pub returns : goal.returns
returns c = c.all_products.ensures (λ x y. item_of_chars c.args.g false) (λ x y answer p q told. told ∙ c.character_of-item.ensures)
