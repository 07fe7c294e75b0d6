use Rattle.std.proofs.Common.{Option, subst}
use Rattle.std.specs.Prelude.{IfSome}
use Rattle.sv_rules.specs.declared.coupling.Coupling.{Coupling}
use Rattle.sv_core.specs.Core.{IsFound}
use Rattle.sv_core.proofs.processor.Core.has_unseen_on.Goals as goal

pub has_unseen-requires : goal.has_unseen-requires
has_unseen-requires c = (subst (λ (k : Option Coupling). IfSome k (IsFound c.args.self.now.journal c.args.offer.now.place)) c.in-Some.is c.coupling_on.ensures.found).at_a
