use Rattle.sv_offer_laws.proofs.StandingLemmas.{Stands-from_standing, standing-from_Stands}
use Rattle.sv_offer_laws.proofs.OwnLemmas.{own_offer-is}
use Rattle.sv_offer_laws.proofs.PlaceLemmas.{places_within, places_ascend}
use Rattle.sv_offer_laws.proofs.laws.standing_law.Goals as goal

pub returns-clause-those : goal.returns-clause-those
returns-clause-those c = λ journal offer. (Stands-from_standing journal offer, standing-from_Stands journal offer)

pub returns-clause-places : goal.returns-clause-places
returns-clause-places c = places_within

pub returns-clause-order : goal.returns-clause-order
returns-clause-order c = places_ascend

pub returns-clause-one : goal.returns-clause-one
returns-clause-one c = own_offer-is
