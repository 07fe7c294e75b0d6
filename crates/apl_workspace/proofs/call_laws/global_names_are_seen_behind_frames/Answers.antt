use Rattle.std.proofs.Common.{Some}
use Rattle.apl_workspace.specs.declared.meaning.Meaning.TheVariants.{Function, Shared}
use Rattle.apl_workspace.proofs.Looks.{look_with}
use Rattle.apl_workspace.proofs.call_laws.global_names_are_seen_behind_frames.Goals as goal

pub returns-clause-defined : goal.returns-clause-defined
returns-clause-defined c = λ w name other function. look_with w name other (Function function)

pub returns-clause-marked : goal.returns-clause-marked
returns-clause-marked c = λ w offer other copy. look_with w offer.local other (Shared copy)

pub returns-clause-renewed : goal.returns-clause-renewed
returns-clause-renewed c = λ w name other value. look_with w name other (Shared (Some value))
