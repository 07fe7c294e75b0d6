use Rattle.std.proofs.Common.{◌∙◌, ap}
use Rattle.std.specs.Prelude.{is_some}
use Rattle.sv_events.specs.declared.row.ActRow.{ActRow}
use Rattle.sv_rules.specs.Refused.{hold_of}
use Rattle.sv_core.proofs.processor.Core.is_refused.Goals as goal

pub returns : goal.returns
returns c = c.refuses.ensures ∙ ap (λ (r : ActRow). is_some (hold_of c.args.self.now.journal c.args.party r.accesses)) c.row.ensures
