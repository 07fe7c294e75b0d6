use Rattle.sv_story_laws.proofs.AnswerLemmas.{uses_get_what_they_find}
use Rattle.sv_story_laws.proofs.OpeningLemmas.{offers_open_where_couplings_end, open_offers_tell_what_is_known, stories_begin_with_the_givers}
use Rattle.sv_story_laws.proofs.laws.opening_law.Goals as goal

pub returns-clause-opens : goal.returns-clause-opens
returns-clause-opens c = offers_open_where_couplings_end

pub returns-clause-tells : goal.returns-clause-tells
returns-clause-tells c = open_offers_tell_what_is_known

pub returns-clause-gets : goal.returns-clause-gets
returns-clause-gets c = uses_get_what_they_find

pub returns-clause-begins : goal.returns-clause-begins
returns-clause-begins c = stories_begin_with_the_givers
