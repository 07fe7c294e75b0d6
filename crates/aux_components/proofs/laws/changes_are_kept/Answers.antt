use Rattle.aux_components.proofs.KeptLemmas.{change_kept}
use Rattle.aux_components.proofs.laws.changes_are_kept.Goals as goal

pub returns : goal.returns
returns g c = change_kept _ _
