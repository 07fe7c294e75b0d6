use Rattle.sv_delivery_laws.proofs.StretchLemmas.{control_loses_nothing, feeds_lose_nothing, requests_have_one_reply, what_control_gives}
use Rattle.sv_delivery_laws.proofs.laws.delivery_law.Goals as goal

pub returns-clause-control : goal.returns-clause-control
returns-clause-control c = control_loses_nothing

pub returns-clause-feeds : goal.returns-clause-feeds
returns-clause-feeds c = feeds_lose_nothing

pub returns-clause-requests : goal.returns-clause-requests
returns-clause-requests c = requests_have_one_reply

pub returns-clause-gives : goal.returns-clause-gives
returns-clause-gives c = what_control_gives
