use Rattle.sv_cell_laws.proofs.QuietSteps.{asking_touches_nothing, retraction_of_none, control_of_none, access_of_none, offer_again, offer_past_limit, refused_touches_nothing, control_of_own, set_makes_access, use_makes_access}
use Rattle.sv_cell_laws.proofs.laws.entries_touch_what_they_name.Goals as goal

pub returns-clause-questions : goal.returns-clause-questions
returns-clause-questions c = asking_touches_nothing

pub returns-clause-no_retraction : goal.returns-clause-no_retraction
returns-clause-no_retraction c = retraction_of_none

pub returns-clause-no_control : goal.returns-clause-no_control
returns-clause-no_control c = control_of_none

pub returns-clause-no_access : goal.returns-clause-no_access
returns-clause-no_access c = access_of_none

pub returns-clause-again : goal.returns-clause-again
returns-clause-again c = offer_again

pub returns-clause-limit : goal.returns-clause-limit
returns-clause-limit c = offer_past_limit

pub returns-clause-refused : goal.returns-clause-refused
returns-clause-refused c = refused_touches_nothing

pub returns-clause-control : goal.returns-clause-control
returns-clause-control c = control_of_own

pub returns-clause-set : goal.returns-clause-set
returns-clause-set c = set_makes_access

pub returns-clause-used : goal.returns-clause-used
returns-clause-used c = use_makes_access
