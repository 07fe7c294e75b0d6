use Rattle.std.proofs.Common.{◌∙◌, rules, tests}
use Rattle.std.proofs.lemmas.Iterator.{YieldsList-from_slice}
use Rattle.std.proofs.lemmas.Iterator.Search.{find_from_yields_List}
use Rattle.sv_rules.specs.Standing.{is_own}
use Rattle.sv_rules.proofs.standing.own_offer.Goals as goal

pub returns : goal.returns
returns c =
    c.copied.ensures ∙ find_from_yields_List (is_own c.args.party c.args.local.now) _ _ c.find.result c.find.ensures.ran (YieldsList-from_slice c.args.offers.now cc) (λ x b q k. search (rules, tests))
