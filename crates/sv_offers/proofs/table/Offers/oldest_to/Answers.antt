use Rattle.std.proofs.Common.{◌∙◌, ap, find, sym}
use Rattle.sv_offers.specs.Table.{PlainOffers, is_open_to}
use Rattle.sv_offers.proofs.TableLemmas.{first_by_test}
use Rattle.sv_offers.proofs.table.Offers.oldest_to.Goals as goal

pub returns : goal.returns
returns c =
    c.first_to.ensures ∙ ap (λ (v : PlainOffers). find (is_open_to v.coupled c.args.party) v.offers) c.self.view_is
    ∙ sym (first_by_test c.args.self.now c.args.party)
