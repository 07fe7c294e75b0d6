use Rattle.sv_delivery_laws.proofs.SentLemmas.{newest_is_unseen, one_is_unseen, sent_is_unseen_and_set}
use Rattle.sv_delivery_laws.proofs.laws.sent_law.Goals as goal

pub returns-clause-sent : goal.returns-clause-sent
returns-clause-sent g c = sent_is_unseen_and_set

pub returns-clause-newest : goal.returns-clause-newest
returns-clause-newest g c = newest_is_unseen

pub returns-clause-one : goal.returns-clause-one
returns-clause-one g c = one_is_unseen
