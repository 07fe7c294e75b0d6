use Rattle.std.proofs.Common.{inl, inr, refl}
use Rattle.auxiliaries.proofs.laws.repliers_come.Goals as goal

pub returns-clause-runs : goal.returns-clause-runs
returns-clause-runs g c = λ start end runs. record { last = end; runs = runs; ends = inl refl }

pub returns-clause-wants : goal.returns-clause-wants
returns-clause-wants g c = λ start last end party value runs wanted. record { last = last; runs = runs; ends = inr (record { party = party; value = value; wanted = wanted }) }
