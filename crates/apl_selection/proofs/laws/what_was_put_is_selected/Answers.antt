use Rattle.apl_selection.proofs.GivenBackLemmas.{given_back}
use Rattle.apl_selection.proofs.laws.what_was_put_is_selected.Goals as goal

pub returns : goal.returns
returns c = given_back
