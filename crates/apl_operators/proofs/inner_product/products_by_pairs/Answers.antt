use Rattle.apl_items.specs.Extension.{number_at}
use Rattle.apl_scalar.specs.Table.{dyadic_item}
use Rattle.apl_operators.proofs.inner_product.products_by_pairs.Goals as goal

pub returns : goal.returns
returns g c =
    c.all_products.ensures (λ x y. dyadic_item c.args.g (number_at c.args.a.now x) (number_at c.args.b.now y)) (λ x y answer p q told. c.requires.rule _ _ answer told)
