use Rattle.sv_access.specs.declared.access.Side.TheVariants.{A}
use Rattle.sv_kept.proofs.ShareLemmas.{begins, sides_know, state_of_one}
use Rattle.sv_kept.proofs.laws.shares_follow_stories.Goals as goal

pub returns-clause-couplings : goal.returns-clause-couplings
returns-clause-couplings c = begins

pub returns-clause-known : goal.returns-clause-known
returns-clause-known c = sides_know

pub returns-clause-open : goal.returns-clause-open
returns-clause-open c = state_of_one A
