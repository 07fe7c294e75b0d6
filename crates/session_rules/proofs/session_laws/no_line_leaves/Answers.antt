use Rattle.session_rules.proofs.Taking.{none_leaves}
use Rattle.session_rules.proofs.session_laws.no_line_leaves.Goals as goal

pub returns : goal.returns
returns c = none_leaves
