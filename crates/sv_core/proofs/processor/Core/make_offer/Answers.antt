use Rattle.std.proofs.Common.{◌∙◌, sym}
use Rattle.sv_cell_laws.proofs.QuietSteps.{offer_again}
use Rattle.sv_core.proofs.processor.Core.make_offer.Goals as goal

pub enter_quiet-requires-clause-quiet : goal.enter_quiet-requires-clause-quiet
enter_quiet-requires-clause-quiet c = offer_again c.args.self.now.journal c.args.party c.args.act c.args.opening c.in-Some.offer c.requires.row (sym c.own.ensures ∙ c.in-Some.is)
