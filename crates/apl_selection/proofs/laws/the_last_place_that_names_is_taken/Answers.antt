use Rattle.apl_selection.proofs.OrderLemmas.{naming_names, named_is_taken}
use Rattle.apl_selection.proofs.laws.the_last_place_that_names_is_taken.Goals as goal

pub returns : goal.returns
returns c = record { named = naming_names; last = named_is_taken }
