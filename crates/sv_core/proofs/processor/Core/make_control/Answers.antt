use Rattle.std.proofs.Common.{◌∙◌, sym}
use Rattle.sv_cell_laws.proofs.QuietSteps.{control_of_none}
use Rattle.sv_core.proofs.processor.Core.make_control.Goals as goal

pub enter_quiet-requires-clause-quiet : goal.enter_quiet-requires-clause-quiet
enter_quiet-requires-clause-quiet c = control_of_none c.args.self.now.journal c.args.party c.args.act c.args.set c.requires.row (sym c.own.ensures ∙ c.in-None.is)
