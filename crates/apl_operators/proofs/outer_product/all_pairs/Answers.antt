use Rattle.std.proofs.Common.{◌∙◌, is_some, refl, sym, ap}
use Rattle.apl_arrays.specs.Array.{seen_items}
use Rattle.operator_rules.specs.Outer.{outer_at}
use Rattle.apl_operators.proofs.NumberLemmas.{none_lacks_of_many}
use Rattle.apl_operators.proofs.ShapeLemmas.{unlike_chars, unlike_numbers}
use Rattle.apl_operators.proofs.TakesAllLemmas.{all_there}
use Rattle.apl_operators.proofs.outer_product.all_pairs.Goals as goal

pub returns-then-takes_all : goal.returns-then-takes_all
returns-then-takes_all c =
    none_lacks_of_many c.args.shape.now (outer_at c.args.f (seen_items c.args.a) (seen_items c.args.b)) c.requires.rank (ap is_some (sym c.shape_fault.ensures) ∙ sym c.if-is_some.ensures)
    (λ place. all_there c.args.f (seen_items c.args.a) (seen_items c.args.b) place (c.if-takes_all.ensures.all refl))

pub returns-in-Numbers-Chars : goal.returns-in-Numbers-Chars
returns-in-Numbers-Chars c =
    unlike_numbers c.args.f c.args.shape.now c.unlike_pairs.result (seen_items c.args.a) (seen_items c.args.b) c.in-Numbers-Chars.a.now c.in-Numbers-Chars.b.now (ap seen_items c.in-Numbers-Chars.is-0) (ap seen_items c.in-Numbers-Chars.is-1) c.unlike_pairs.ensures

pub returns-in-Chars-Numbers : goal.returns-in-Chars-Numbers
returns-in-Chars-Numbers c =
    unlike_chars c.args.f c.args.shape.now c.unlike_pairs-in-Chars-Numbers.result (seen_items c.args.a) (seen_items c.args.b) c.in-Chars-Numbers.a.now c.in-Chars-Numbers.b.now (ap seen_items c.in-Chars-Numbers.is-0) (ap seen_items c.in-Chars-Numbers.is-1)
    c.unlike_pairs-in-Chars-Numbers.ensures
