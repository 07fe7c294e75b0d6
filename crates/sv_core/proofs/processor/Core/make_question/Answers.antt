use Rattle.sv_cell_laws.proofs.QuietSteps.{asking_touches_nothing}
use Rattle.sv_core.proofs.processor.Core.make_question.Goals as goal

pub enter_quiet-requires-clause-quiet : goal.enter_quiet-requires-clause-quiet
enter_quiet-requires-clause-quiet c = asking_touches_nothing c.args.self.now.journal c.args.party c.args.act c.args.asked c.requires.row
