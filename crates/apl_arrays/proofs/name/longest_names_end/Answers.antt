use Rattle.apl_arrays.proofs.Names.{longest_is_found, found_is_longest}
use Rattle.apl_arrays.proofs.name.longest_names_end.Goals as goal

pub returns-clause-found : goal.returns-clause-found
returns-clause-found c = longest_is_found

pub returns-clause-ends : goal.returns-clause-ends
returns-clause-ends c = found_is_longest
