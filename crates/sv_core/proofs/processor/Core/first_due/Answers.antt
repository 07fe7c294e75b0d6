use Rattle.std.proofs.Common.{◌∙◌, sym}
use Rattle.sv_core.proofs.DueLemmas.{find_here, find_more}
use Rattle.sv_core.specs.Due.{is_due_on}
use Rattle.sv_core.proofs.processor.Core.first_due.Goals as goal

pub returns-then-is_due : goal.returns-then-is_due
returns-then-is_due c =
    sym (find_here (is_due_on c.args.self.now.journal c.args.due) c.args.offers.now c.loop-offer.offer-index c.offer-item.result c.loop-offer-test.true c.offer-item.is (sym c.is_due.ensures ∙ c.if-is_due.true) c.loop-offer.invariant)

pub loop-offer-preserved : goal.loop-offer-preserved
loop-offer-preserved c =
    find_more (is_due_on c.args.self.now.journal c.args.due) c.args.offers.now c.loop-offer.offer-index c.offer-item.result c.loop-offer-test.true c.offer-item.is (sym c.is_due.ensures ∙ c.if-is_due.false) c.loop-offer.invariant

pub is_due-requires-clause-stands : goal.is_due-requires-clause-stands
is_due-requires-clause-stands c = c.requires.stand c.offer-item.result (c.loop-offer.offer-index, c.loop-offer-test.true, sym c.offer-item.is)

pub is_due-requires-clause-own : goal.is_due-requires-clause-own
is_due-requires-clause-own c = c.requires.own c.offer-item.result (c.loop-offer.offer-index, c.loop-offer-test.true, sym c.offer-item.is)
