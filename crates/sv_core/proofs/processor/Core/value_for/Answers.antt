use Rattle.std.proofs.Common.{subst, Option}
use Rattle.std.specs.Prelude.{IfSome}
use Rattle.sv_core.specs.Core.{IsFound}
use Rattle.sv_rules.specs.declared.coupling.Coupling.{Coupling}
use Rattle.sv_core.proofs.processor.Core.value_for.Goals as goal

pub last_value-requires : goal.last_value-requires
last_value-requires c = (subst (λ (k : Option Coupling). IfSome k (IsFound c.args.self.now.journal c.args.offer.now.place)) c.in-Some.is c.requires.found).at_a
