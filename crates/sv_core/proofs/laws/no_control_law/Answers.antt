use Rattle.sv_core.proofs.NoControlLemmas.{no_act_is_held, no_entry_is_held, nobody_waits}
use Rattle.sv_core.proofs.laws.no_control_law.Goals as goal

pub returns-clause-act : goal.returns-clause-act
returns-clause-act c = no_act_is_held

pub returns-clause-entry : goal.returns-clause-entry
returns-clause-entry c = no_entry_is_held

pub returns-clause-nobody : goal.returns-clause-nobody
returns-clause-nobody c = nobody_waits
