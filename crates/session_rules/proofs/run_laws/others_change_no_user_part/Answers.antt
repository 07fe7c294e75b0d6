use Rattle.session_rules.proofs.Parties.{other_changes_no_user_part}
use Rattle.session_rules.proofs.run_laws.others_change_no_user_part.Goals as goal

pub returns : goal.returns
returns c = other_changes_no_user_part
