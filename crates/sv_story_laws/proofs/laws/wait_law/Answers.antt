use Rattle.sv_story_laws.proofs.AnswerLemmas.{holds_are_given_or_given_up}
use Rattle.sv_story_laws.proofs.AuxiliaryLemmas.{auxiliaries_are_never_refused}
use Rattle.sv_story_laws.proofs.WaitLemmas.{stuck_is, waiters_act_again_or_leave, only_users_leave, waits_for_the_last}
use Rattle.sv_story_laws.proofs.laws.wait_law.Goals as goal

pub returns-clause-last : goal.returns-clause-last
returns-clause-last c = waits_for_the_last

pub returns-clause-stuck : goal.returns-clause-stuck
returns-clause-stuck c = stuck_is

pub returns-clause-held : goal.returns-clause-held
returns-clause-held c = holds_are_given_or_given_up

pub returns-clause-again : goal.returns-clause-again
returns-clause-again c = waiters_act_again_or_leave

pub returns-clause-users : goal.returns-clause-users
returns-clause-users c = only_users_leave

pub returns-clause-auxiliaries : goal.returns-clause-auxiliaries
returns-clause-auxiliaries c = auxiliaries_are_never_refused
