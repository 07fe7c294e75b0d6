use Rattle.std.proofs.Common.{◌∙◌, is_some, refl, sym, ap}
use Rattle.apl_arrays.specs.Array.{seen_items}
use Rattle.operator_rules.specs.Inner.{inner_at}
use Rattle.apl_operators.proofs.NumberLemmas.{none_lacks_of_many}
use Rattle.apl_operators.proofs.ProductLemmas.{unlike_chars, unlike_numbers}
use Rattle.apl_operators.proofs.TakesAllLemmas.{products_there}
use Rattle.apl_operators.proofs.inner_product.products_of_items.Goals as goal

pub returns-then-takes_all : goal.returns-then-takes_all
returns-then-takes_all c =
    let extent = c.args.extent in
    none_lacks_of_many c.args.shape.now (inner_at c.args.f c.args.g (seen_items c.args.a) (seen_items c.args.b) extent.paired extent.columns) c.requires.rank
    (ap is_some (sym c.shape_fault.ensures) ∙ sym c.if-is_some.ensures)
    (λ place. products_there c.args.f c.args.g (seen_items c.args.a) (seen_items c.args.b) extent.paired extent.columns place c.requires.extent.some (sym c.if-refuses_none.ensures) (c.if-takes_all.ensures.all refl))

pub returns-in-Numbers-Chars : goal.returns-in-Numbers-Chars
returns-in-Numbers-Chars c =
    unlike_numbers c.args.f c.args.g c.args.shape.now c.args.extent.paired c.args.extent.columns c.unlike_products.result (seen_items c.args.a) (seen_items c.args.b) c.in-Numbers-Chars.field-0-0.now c.in-Numbers-Chars.field-0-1.now (ap seen_items c.in-Numbers-Chars.is-0) (ap seen_items c.in-Numbers-Chars.is-1)
    c.unlike_products.ensures

pub returns-in-Chars-Numbers : goal.returns-in-Chars-Numbers
returns-in-Chars-Numbers c =
    unlike_chars c.args.f c.args.g c.args.shape.now c.args.extent.paired c.args.extent.columns c.unlike_products-in-Chars-Numbers.result (seen_items c.args.a) (seen_items c.args.b) c.in-Chars-Numbers.field-0-0.now c.in-Chars-Numbers.field-0-1.now (ap seen_items c.in-Chars-Numbers.is-0) (ap seen_items c.in-Chars-Numbers.is-1)
    c.unlike_products-in-Chars-Numbers.ensures
