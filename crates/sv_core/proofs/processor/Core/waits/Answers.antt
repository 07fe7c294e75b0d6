use Rattle.std.proofs.Common.{◌∙◌, Option, ap, ℕ}
use Rattle.std.specs.Prelude.{is_some}
use Rattle.sv_core.proofs.WaitingLemmas.{waiting_is}
use Rattle.sv_core.proofs.processor.Core.waits.Goals as goal

pub returns : goal.returns
returns c = c.is_some.ensures ∙ ap (λ (o : Option ℕ). is_some o) c.member.ensures.waiting ∙ waiting_is c.args.self.now.journal c.args.party
