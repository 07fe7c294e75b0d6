use Rattle.apl_operators.specs.Products.{products_at}
use Rattle.apl_operators.proofs.products.products_by.Goals as goal

pub returns : goal.returns
returns g c item follows =
    c.numbers_by_rows.ensures (products_at c.args.f item c.args.extent.paired c.args.extent.columns) (λ place answer below told. told item follows)
