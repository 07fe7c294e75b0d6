use Rattle.run_reasons.proofs.NamedLemmas.{controls, values}
use Rattle.run_reasons.proofs.laws.entries_that_are_named.Goals as goal

pub returns-clause-controls : goal.returns-clause-controls
returns-clause-controls c = controls

pub returns-clause-values : goal.returns-clause-values
returns-clause-values c = values
