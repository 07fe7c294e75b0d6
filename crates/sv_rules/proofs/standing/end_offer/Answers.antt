use Rattle.std.proofs.Common.{not, rules, tests}
use Rattle.std.proofs.lemmas.Fn.{filter_same}
use Rattle.sv_rules.specs.Standing.{is_own}
use Rattle.sv_rules.proofs.standing.end_offer.Goals as goal

pub returns-clause-items : goal.returns-clause-items
returns-clause-items c =
    filter_same _ (λ offer. not (is_own c.args.party c.args.local.now offer)) _ (λ x b q k. search (rules, tests)) c.args.offers.now.items _ c.retain.ensures.filtered
