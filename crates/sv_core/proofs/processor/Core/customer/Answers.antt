use Rattle.std.proofs.Common.{◌∙◌, sym}
use Rattle.sv_core.proofs.ServiceLemmas.{customers_are_there}
use Rattle.sv_core.proofs.processor.Core.customer.Goals as goal

pub unreachable-requires : goal.unreachable-requires
unreachable-requires c = customers_are_there c.args.self.now.journal c.args.party c.requires.serves (sym c.partner_served.ensures ∙ c.in-None.is)

pub returns : goal.returns
returns c = sym c.partner_served.ensures ∙ c.in-Some.is
