use Rattle.std.proofs.Common.{subst, sym}
use Rattle.sv_cell_laws.proofs.QuietSteps.{access_of_none}
use Rattle.sv_cell_laws.specs.Steps.{TouchesNothing}
use Rattle.sv_events.specs.declared.event.Act.{Act}
use Rattle.sv_rules.specs.Legal.{entry_for}
use Rattle.sv_core.proofs.processor.Core.make_unshared_access.Goals as goal

pub enter_quiet-requires-clause-quiet : goal.enter_quiet-requires-clause-quiet
enter_quiet-requires-clause-quiet c =
    subst (λ (act : Act). TouchesNothing c.args.self.now.journal (entry_for c.args.self.now.journal c.args.party act)) (sym c.in_ok-entered.ensures)
    (access_of_none c.args.self.now.journal c.args.party c.args.act.now c.args.access.now c.requires.row c.requires.none)
