use Rattle.std.proofs.Common.{◌==◌}
use Rattle.apl_items.specs.Extension.{char_at}
use Rattle.apl_scalar.specs.Table.{item_of_chars}
use Rattle.apl_operators.proofs.inner_product.glyph_products_by.Goals as goal

pub returns : goal.returns
returns g c = c.all_products.ensures (λ x y. item_of_chars c.args.g (char_at c.args.a.now x == char_at c.args.b.now y)) (λ x y answer p q told. c.requires.rule _ answer told)
