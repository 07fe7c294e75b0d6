use Rattle.std.proofs.Common.{◌==◌, rules, tests}
use Rattle.std.proofs.lemmas.Fn.{filter_same}
use Rattle.sv_plain.proofs.asking.keep_made_to.Goals as goal

pub returns : goal.returns
returns c = filter_same _ (λ offer. offer.to == c.args.party) _ (λ x b q k. search (rules, tests)) c.args.offers.now.items _ c.retain.ensures.filtered
