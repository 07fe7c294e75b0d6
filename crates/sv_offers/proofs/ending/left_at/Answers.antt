use Rattle.std.proofs.Common.{◌∙◌, sym}
use Rattle.sv_offers.proofs.EndLemmas.{left_ended, left_none, left_standing}
use Rattle.sv_offers.proofs.ending.left_at.Goals as goal

pub returns-in_err-offer : goal.returns-in_err-offer
returns-in_err-offer c = c.from_residual.ensures ∙ left_none c.args.offers.now c.args.place c.args.party c.args.ending.now (sym c.in_err-offer.ensures)

pub returns-then-is_ended : goal.returns-then-is_ended
returns-then-is_ended c =
    left_ended c.args.offers.now c.args.place c.args.party c.args.ending.now c.in_ok-offer.offer c.requires (sym c.in_ok-offer.ensures) (sym c.is_ended.ensures ∙ c.if-is_ended.true)

pub returns : goal.returns
returns c =
    left_standing c.args.offers.now c.args.place c.args.party c.args.ending.now c.in_ok-offer.offer (sym c.in_ok-offer.ensures) (sym c.is_ended.ensures ∙ c.if-is_ended.false)
