use Rattle.std.proofs.Common.{ap, arith}
use Rattle.sv_offers.specs.Table.{PlainOffers}
use Rattle.sv_core.proofs.Kept.{new_core}
use Rattle.sv_core.proofs.processor.Core.new.Goals as goal

pub invariant_of-result : goal.invariant_of-result
invariant_of-result c =
    new_core _ c.args.users.now c.requires.people c.in_ok-log.ensures.users c.in_ok-log.ensures.journal (ap (λ (t : PlainOffers). t.offers) c.new-2.ensures) (ap (λ (t : PlainOffers). t.coupled) c.new-2.ensures) c.new-3.ensures
    c.in_ok-log.ensures.room (omega (arith, c.in_ok-spares.ensures.count, c.in_ok-spares.spares.ok.0)) c.in_ok-spares.ensures.spares
