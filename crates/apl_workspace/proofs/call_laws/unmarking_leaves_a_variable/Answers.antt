use Rattle.apl_workspace.proofs.Looks.{look_kept, look_unmarked, offers_again}
use Rattle.apl_workspace.proofs.call_laws.unmarking_leaves_a_variable.Goals as goal

pub returns-clause-light : goal.returns-clause-light
returns-clause-light c = look_unmarked

pub returns-clause-heavy : goal.returns-clause-heavy
returns-clause-heavy c = look_kept

pub returns-clause-offers : goal.returns-clause-offers
returns-clause-offers c = offers_again
