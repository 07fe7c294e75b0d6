use Rattle.session_rules.proofs.Taking.{full_is_rare}
use Rattle.session_rules.proofs.session_laws.full_ends_its_line.Goals as goal

pub returns : goal.returns
returns c = full_is_rare
