use Rattle.std.proofs.Common.{sym, ◌∙◌}
use Rattle.sv_rules.specs.Standing.{standing}
use Rattle.sv_offer_laws.proofs.OwnLemmas.{own_offer-parts}
use Rattle.sv_core.proofs.processor.Core.state_asked.Goals as goal

pub state_vector-requires : goal.state_vector-requires
state_vector-requires c = (own_offer-parts (standing c.args.self.now.journal) c.args.party c.args.local.now c.in-Some.offer (sym c.own.ensures ∙ c.in-Some.is)).2
