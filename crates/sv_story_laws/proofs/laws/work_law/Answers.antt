use Rattle.sv_story_laws.proofs.DueLemmas.{counters_are_made_to_the_lowest, first_to_counter_is_lowest, work_is_the_first_that_applies, work_is_what_is_due}
use Rattle.sv_story_laws.proofs.WorkLemmas.{first_open_is_lowest, first_coupled_is_lowest, control_is_lacking, replies_are_owed_to_uses, since_are_the_newest, full_journals_leave_no_work, questions_tell_parties}
use Rattle.sv_story_laws.proofs.ReplyLemmas.{replies_are_to_what_the_last_use_got}
use Rattle.sv_story_laws.proofs.laws.work_law.Goals as goal

pub returns-clause-opened : goal.returns-clause-opened
returns-clause-opened c = first_open_is_lowest

pub returns-clause-coupled : goal.returns-clause-coupled
returns-clause-coupled c = first_coupled_is_lowest

pub returns-clause-to_counter : goal.returns-clause-to_counter
returns-clause-to_counter c = first_to_counter_is_lowest

pub returns-clause-counters : goal.returns-clause-counters
returns-clause-counters c = counters_are_made_to_the_lowest

pub returns-clause-lacking : goal.returns-clause-lacking
returns-clause-lacking c = control_is_lacking

pub returns-clause-owed : goal.returns-clause-owed
returns-clause-owed c = replies_are_owed_to_uses

pub returns-clause-replied : goal.returns-clause-replied
returns-clause-replied c = replies_are_to_what_the_last_use_got

pub returns-clause-since : goal.returns-clause-since
returns-clause-since c = since_are_the_newest

pub returns-clause-first : goal.returns-clause-first
returns-clause-first c = work_is_the_first_that_applies

pub returns-clause-due : goal.returns-clause-due
returns-clause-due c = work_is_what_is_due

pub returns-clause-full : goal.returns-clause-full
returns-clause-full c = full_journals_leave_no_work

pub returns-clause-parties : goal.returns-clause-parties
returns-clause-parties c = questions_tell_parties
