use Rattle.std.proofs.Common.{sym, ◌∙◌}
use Rattle.sv_rules.specs.Standing.{standing}
use Rattle.sv_offer_laws.proofs.OwnLemmas.{own_offer-parts}
use Rattle.sv_core.proofs.processor.Core.control_in_force.Goals as goal

pub vector-requires : goal.vector-requires
vector-requires c = (own_offer-parts (standing c.args.self.now.journal) c.args.party c.args.local.now c.in-Some.offer (sym c.own.ensures ∙ c.in-Some.is)).2

pub in_force_with-requires : goal.in_force_with-requires
in_force_with-requires c = (own_offer-parts (standing c.args.self.now.journal) c.args.party c.args.local.now c.in-Some.offer (sym c.own.ensures ∙ c.in-Some.is)).2
