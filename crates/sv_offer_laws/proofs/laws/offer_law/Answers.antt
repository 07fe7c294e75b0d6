use Rattle.sv_offer_laws.proofs.OfferLemmas.{new_offers_are_answered, offers_again_tell_their_degree, retractions_keep_what_is_known}
use Rattle.sv_offer_laws.proofs.laws.offer_law.Goals as goal

pub returns-clause-again : goal.returns-clause-again
returns-clause-again c = offers_again_tell_their_degree

pub returns-clause-first : goal.returns-clause-first
returns-clause-first c = new_offers_are_answered

pub returns-clause-taken_back : goal.returns-clause-taken_back
returns-clause-taken_back c = retractions_keep_what_is_known
