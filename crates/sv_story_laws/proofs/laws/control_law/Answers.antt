use Rattle.sv_story_laws.proofs.ControlLemmas.{control_of_a_coupled_offer_is_the_joint_one, controls_are_set_by_the_party, vector_is_the_last_control, vector_is_none_at_first, state_vectors_are_of_the_story, holds_of_open_offers_are_mine, holds_are_those_of_the_table, control_of_an_open_offer_is_its_vector, nothing_is_refused_without_control}
use Rattle.sv_story_laws.proofs.laws.control_law.Goals as goal

pub returns-clause-by_party : goal.returns-clause-by_party
returns-clause-by_party c = controls_are_set_by_the_party

pub returns-clause-last : goal.returns-clause-last
returns-clause-last c = vector_is_the_last_control

pub returns-clause-none : goal.returns-clause-none
returns-clause-none c = vector_is_none_at_first

pub returns-clause-state : goal.returns-clause-state
returns-clause-state c = state_vectors_are_of_the_story

pub returns-clause-mine : goal.returns-clause-mine
returns-clause-mine c = holds_of_open_offers_are_mine

pub returns-clause-nothing : goal.returns-clause-nothing
returns-clause-nothing c = nothing_is_refused_without_control

pub returns-clause-table : goal.returns-clause-table
returns-clause-table c = holds_are_those_of_the_table

pub returns-clause-alone : goal.returns-clause-alone
returns-clause-alone c = control_of_an_open_offer_is_its_vector

pub returns-clause-joint : goal.returns-clause-joint
returns-clause-joint c = control_of_a_coupled_offer_is_the_joint_one
