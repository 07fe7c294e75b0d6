use Rattle.sv_access.proofs.StoryLemmas.{state_by_unseen, verdict_by_state, vector_by_state, joined_alike}
use Rattle.sv_access.proofs.law.table_is_the_stories_law.Goals as goal

pub returns-clause-states : goal.returns-clause-states
returns-clause-states g c = state_by_unseen

pub returns-clause-verdicts : goal.returns-clause-verdicts
returns-clause-verdicts g c = verdict_by_state

pub returns-clause-vectors : goal.returns-clause-vectors
returns-clause-vectors g c = vector_by_state

pub returns-clause-joins : goal.returns-clause-joins
returns-clause-joins g c = joined_alike
