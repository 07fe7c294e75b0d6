use Rattle.std.proofs.Common.{◌∙◌, sym}
use Rattle.sv_core.proofs.DueLemmas.{find_here, find_more}
use Rattle.sv_core.specs.Due.{is_open}
use Rattle.sv_core.proofs.processor.Core.first_open_among.Goals as goal

pub returns-then-is_open : goal.returns-then-is_open
returns-then-is_open c =
    sym (find_here (is_open c.args.self.now.journal) c.args.offers.now c.loop-offer.offer-index c.offer-item.result c.loop-offer-test.true c.offer-item.is (sym c.is_open.ensures ∙ c.if-is_open.true) c.loop-offer.invariant)

pub loop-offer-preserved : goal.loop-offer-preserved
loop-offer-preserved c =
    find_more (is_open c.args.self.now.journal) c.args.offers.now c.loop-offer.offer-index c.offer-item.result c.loop-offer-test.true c.offer-item.is (sym c.is_open.ensures ∙ c.if-is_open.false) c.loop-offer.invariant
