use Rattle.std.proofs.Common.{◌==◌, not, rules, tests}
use Rattle.std.proofs.lemmas.Fn.{filter_same}
use Rattle.sv_rules.proofs.standing.end_offers.Goals as goal

pub returns-clause-items : goal.returns-clause-items
returns-clause-items c =
    filter_same _ (λ offer. not (offer.party == c.args.party)) _ (λ x b q k. search (rules, tests)) c.args.offers.now.items _ c.retain.ensures.filtered
