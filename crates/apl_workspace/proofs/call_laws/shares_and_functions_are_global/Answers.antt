use Rattle.apl_workspace.specs.declared.meaning.Meaning.TheVariants.{Function, Shared}
use Rattle.apl_workspace.proofs.Looks.{seen_globally}
use Rattle.apl_workspace.proofs.call_laws.shares_and_functions_are_global.Goals as goal

pub returns-clause-shared : goal.returns-clause-shared
returns-clause-shared c = λ w name copy h is. seen_globally w name (Shared copy) h (λ none. absurd none) is

pub returns-clause-function : goal.returns-clause-function
returns-clause-function c = λ w name function h is. seen_globally w name (Function function) h (λ none. absurd none) is
