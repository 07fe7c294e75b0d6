use Rattle.std.proofs.Common.{◌≡◌, map, take}
use Rattle.std.specs.Prelude.{filter}
use Rattle.sv_offers.specs.Table.{is_open_to}
use Rattle.sv_offers.proofs.listing.names_to.Given as goal

-- the surrogates so far
abbrev pub invariant-loop-offer : goal.invariant-loop-offer
invariant-loop-offer l = l.list.items ≡ map (λ offer. offer.surrogate) (filter (is_open_to l.coupled.items l.party) (take l.offer-index l.offers))
