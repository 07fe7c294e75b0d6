use Rattle.std.proofs.Common.{subst, Option}
use Rattle.std.specs.Prelude.{IfSome}
use Rattle.sv_core.specs.Core.{IsFound}
use Rattle.sv_rules.specs.declared.coupling.Coupling.{Coupling}
use Rattle.sv_core.proofs.processor.Core.partners_vector.Goals as goal

pub vector-requires : goal.vector-requires
vector-requires c = (subst (λ (k : Option Coupling). IfSome k (IsFound c.args.self.now.journal c.args.offer.now.place)) c.in-Some.is c.coupling_on.ensures.found).has_b

pub vector-requires-else-coupling-offer : goal.vector-requires-else-coupling-offer
vector-requires-else-coupling-offer c = (subst (λ (k : Option Coupling). IfSome k (IsFound c.args.self.now.journal c.args.offer.now.place)) c.in-Some.is c.coupling_on.ensures.found).has_a
