use Rattle.apl_scalar.specs.Table.{dyadic_item}
use Rattle.apl_operators.proofs.LastLemmas.{last_fronts_have, last_fronts_lack}
use Rattle.apl_operators.proofs.WeightLemmas.{some_along}
use Rattle.apl_operators.proofs.scanning.breaks_off.Goals as goal

pub returns-clause-some : goal.returns-clause-some
returns-clause-some g c e =
    let at = c.lacks_by_rows.ensures.some e in
    last_fronts_lack (dyadic_item c.args.f) c.args.list.now c.args.split at.0 c.requires.whole (some_along c.args.split c.requires.some) at.1 at.2

pub returns-clause-none : goal.returns-clause-none
returns-clause-none g c e = last_fronts_have (dyadic_item c.args.f) c.args.list.now c.args.split c.requires.whole c.requires.runs (c.lacks_by_rows.ensures.none e)
