use Rattle.apl_selection.proofs.FlagLaws.{kept_shape}
use Rattle.apl_selection.proofs.laws.as_much_is_kept_as_there_are_ones.Goals as goal

pub returns : goal.returns
returns c = kept_shape
