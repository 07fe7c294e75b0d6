use Rattle.sv_story_laws.proofs.StepLemmas.{steps_may_follow, leaves_may_follow, retries_may_follow, held_retries_may_not_follow, auxiliaries_do_not_leave, work_may_follow}
use Rattle.sv_story_laws.proofs.laws.step_law.Goals as goal

pub returns-clause-steps : goal.returns-clause-steps
returns-clause-steps c = steps_may_follow

pub returns-clause-leaves : goal.returns-clause-leaves
returns-clause-leaves c = leaves_may_follow

pub returns-clause-retries : goal.returns-clause-retries
returns-clause-retries c = retries_may_follow

pub returns-clause-held : goal.returns-clause-held
returns-clause-held c = held_retries_may_not_follow

pub returns-clause-stay : goal.returns-clause-stay
returns-clause-stay c = auxiliaries_do_not_leave

pub returns-clause-work : goal.returns-clause-work
returns-clause-work c = work_may_follow
