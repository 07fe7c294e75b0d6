use Rattle.apl_statements.proofs.Opened.{names_open, parties_open, reference_opens, set_opens, use_opens}
use Rattle.apl_machine.proofs.laws.shared_names_open_acts.Goals as goal

pub returns-clause-reference : goal.returns-clause-reference
returns-clause-reference c = reference_opens

pub returns-clause-assignment : goal.returns-clause-assignment
returns-clause-assignment c = set_opens

pub returns-clause-items : goal.returns-clause-items
returns-clause-items c = use_opens

pub returns-clause-parties : goal.returns-clause-parties
returns-clause-parties c = parties_open

pub returns-clause-names : goal.returns-clause-names
returns-clause-names c = names_open
