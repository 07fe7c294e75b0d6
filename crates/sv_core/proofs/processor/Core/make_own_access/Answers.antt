use Rattle.sv_offer_laws.proofs.OwnLemmas.{own_offer-parts}
use Rattle.sv_rules.specs.Standing.{standing}
use Rattle.sv_core.proofs.processor.Core.make_own_access.Goals as goal

pub hold_on-requires-clause-stands : goal.hold_on-requires-clause-stands
hold_on-requires-clause-stands c = (own_offer-parts (standing c.args.self.now.journal) c.args.party c.args.access.now.local c.args.offer.now c.requires.own).2
