use Rattle.session_rules.proofs.Parties.{other_changes_no_auxiliary_part}
use Rattle.session_rules.proofs.run_laws.others_change_no_auxiliary_part.Goals as goal

pub returns : goal.returns
returns c start = other_changes_no_auxiliary_part _ _
