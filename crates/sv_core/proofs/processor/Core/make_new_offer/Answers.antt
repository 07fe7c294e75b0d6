use Rattle.std.proofs.Common.{◌∙◌, sym}
use Rattle.sv_cell_laws.proofs.QuietSteps.{offer_past_limit}
use Rattle.sv_core.proofs.processor.Core.make_new_offer.Goals as goal

pub enter_quiet-requires-clause-quiet : goal.enter_quiet-requires-clause-quiet
enter_quiet-requires-clause-quiet c = offer_past_limit c.args.self.now.journal c.args.party c.args.act c.args.opening c.requires.row c.requires.fresh (sym c.has_most_offers.ensures ∙ c.if-has_most_offers.true)
