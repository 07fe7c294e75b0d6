use Rattle.line_trees.proofs.Places.{stop_is_error}
use Rattle.line_trees.proofs.laws.stops_are_errors.Goals as goal

pub returns : goal.returns
returns c = record { one_place = stop_is_error }
