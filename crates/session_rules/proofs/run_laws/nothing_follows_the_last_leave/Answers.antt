use Rattle.session_rules.proofs.LastLeave.{last_leave}
use Rattle.session_rules.proofs.run_laws.nothing_follows_the_last_leave.Goals as goal

pub returns : goal.returns
returns c = last_leave
