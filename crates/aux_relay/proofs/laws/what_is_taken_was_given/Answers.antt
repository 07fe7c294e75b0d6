use Rattle.aux_relay.proofs.HistoryLemmas.{taken_in_order}
use Rattle.aux_relay.proofs.laws.what_is_taken_was_given.Goals as goal

pub returns : goal.returns
returns c = taken_in_order
