use Rattle.sv_story_laws.proofs.AccessLemmas.{IsAccessOn-from_access, access_on-from_IsAccessOn, known_is_the_last_access, known_is_handed_in, sides_are_offers, story_is_opening_and_accesses, giver_knows, opening_is_known_and_accesses, full_is}
use Rattle.sv_story_laws.proofs.laws.story_law.Goals as goal

pub returns-clause-accesses : goal.returns-clause-accesses
returns-clause-accesses c = λ offer e access. (IsAccessOn-from_access offer e access, access_on-from_IsAccessOn offer e access)

pub returns-clause-known : goal.returns-clause-known
returns-clause-known c = known_is_the_last_access

pub returns-clause-handed_in : goal.returns-clause-handed_in
returns-clause-handed_in c = known_is_handed_in

pub returns-clause-sides : goal.returns-clause-sides
returns-clause-sides c = sides_are_offers

pub returns-clause-story : goal.returns-clause-story
returns-clause-story c = story_is_opening_and_accesses

pub returns-clause-full : goal.returns-clause-full
returns-clause-full c = full_is

pub returns-clause-giver : goal.returns-clause-giver
returns-clause-giver c = giver_knows

pub returns-clause-opening : goal.returns-clause-opening
returns-clause-opening c = opening_is_known_and_accesses
