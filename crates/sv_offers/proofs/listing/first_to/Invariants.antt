use Rattle.std.proofs.Common.{◌≡◌, None}
use Rattle.sv_offers.proofs.LookLemmas.{first_at}
use Rattle.sv_offers.specs.Addressed.{places_to}
use Rattle.sv_offers.specs.Table.{open_at}
use Rattle.sv_offers.proofs.listing.first_to.Given as goal

-- the offer is among the places that are left
abbrev pub invariant-loop-place : goal.invariant-loop-place
invariant-loop-place l = first_at (open_at l.offers l.coupled.items l.party) l.place-iterator ≡ first_at (open_at l.offers l.coupled.items l.party) (places_to l.offers l.party None)
