use Rattle.std.proofs.Common.{◌∙◌, sym, subst}
use Rattle.apl_arrays.specs.Array.{seen_items}
use Rattle.apl_scalar.specs.Reading.{AllFit}
use Rattle.apl_operators.proofs.TakesAllLemmas.{taken}
use Rattle.apl_operators.proofs.items.takes_all.Goals as goal

pub returns-clause-all : goal.returns-clause-all
returns-clause-all c e =
    taken c.args.f (seen_items c.args.a) (seen_items c.args.b) (subst AllFit c.numbers.ensures c.read_all.ensures) (subst AllFit c.numbers-2.ensures c.read_all-2.ensures) (sym c.takes_kinds.ensures ∙ e)
