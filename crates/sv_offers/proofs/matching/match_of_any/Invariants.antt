use Rattle.std.proofs.Common.{◌≡◌, Some}
use Rattle.sv_offers.proofs.LookLemmas.{first_at}
use Rattle.sv_offers.specs.Addressed.{places_to}
use Rattle.sv_offers.specs.Table.{match_at}
use Rattle.sv_offers.proofs.matching.match_of_any.Given as goal

-- the match is among the places that are left
abbrev pub invariant-loop-place : goal.invariant-loop-place
invariant-loop-place l = first_at (match_at l.offers l.coupled.items l.offer) l.place-iterator ≡ first_at (match_at l.offers l.coupled.items l.offer) (places_to l.offers l.offer.party (Some l.offer.surrogate))
