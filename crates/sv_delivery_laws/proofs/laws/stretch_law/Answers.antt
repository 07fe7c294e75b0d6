use Rattle.sv_delivery_laws.proofs.DeliveryLemmas.{stories_begin_in_order}
use Rattle.sv_delivery_laws.proofs.StretchLemmas.{full_vectors_hold_for_both, stretches_add_to_the_story, stretches_stand_or_are_open}
use Rattle.sv_delivery_laws.proofs.laws.stretch_law.Goals as goal

pub returns-clause-added : goal.returns-clause-added
returns-clause-added c = stretches_add_to_the_story

pub returns-clause-stands : goal.returns-clause-stands
returns-clause-stands c = stretches_stand_or_are_open

pub returns-clause-full : goal.returns-clause-full
returns-clause-full c = full_vectors_hold_for_both

pub returns-clause-begins : goal.returns-clause-begins
returns-clause-begins c = stories_begin_in_order
