use Rattle.std.proofs.Common.{◌∙◌, sym}
use Rattle.sv_offer_laws.proofs.OwnLemmas.{own_offer-parts}
use Rattle.sv_rules.specs.Standing.{standing}
use Rattle.sv_core.proofs.processor.Core.make_access.Goals as goal

pub coupling_on-requires : goal.coupling_on-requires
coupling_on-requires c = (own_offer-parts (standing c.args.self.now.journal) c.args.party c.args.access.now.local c.in-Some.offer (sym c.own.ensures ∙ c.in-Some.is)).2
