use Rattle.std.proofs.Common.{◌∙◌, ap}
use Rattle.sv_offers.proofs.OrderLemmas.{found_under}
use Rattle.sv_rules.specs.Coupling.{offer_at}
use Rattle.sv_offers.proofs.placed.PlacedOffers.at.Goals as goal

pub returns : goal.returns
returns c =
    c.copied.ensures ∙ c.get.ensures.value ∙ found_under c.self.inside.offers.entries c.args.place c.self.invariant.under
    ∙ ap (λ offers. offer_at offers c.args.place) c.self.view_is
