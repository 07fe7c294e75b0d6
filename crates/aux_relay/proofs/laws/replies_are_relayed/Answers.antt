use Rattle.aux_relay.proofs.HistoryLemmas.{run_is_relayed}
use Rattle.aux_relay.proofs.laws.replies_are_relayed.Goals as goal

pub returns : goal.returns
returns c = run_is_relayed
