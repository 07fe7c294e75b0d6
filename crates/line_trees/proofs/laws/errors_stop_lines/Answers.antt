use Rattle.line_trees.proofs.Places.{error_stops}
use Rattle.line_trees.proofs.laws.errors_stop_lines.Goals as goal

pub returns : goal.returns
returns c = error_stops
