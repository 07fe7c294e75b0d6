-- What holds of the tables' insides.
use Rattle.std.specs.Prelude.{◌≤◌, ◌<◌, ◌+◌, ◌*◌, ◌^◌, All, vec_len, vec_capacity}
use Rattle.std.specs.HashMap.{spare}
use Rattle.sv_offers.specs.Addressed.{HasMadeTo}
use Rattle.sv_offers.specs.Finding.{FindsMates, FindsNames}
use Rattle.sv_offers.specs.Places.{ByPlace}
use Rattle.sv_offers.specs.Senders.{HasSent}
use Rattle.sv_offers.specs.PartyList.{HasOwn}
use Rattle.sv_offers.specs.Slots.{SlotsByMaking, couplings_in}
use Rattle.sv_offers.specs.declared.couplings.Couplings.TheInside as couplings
use Rattle.sv_offers.specs.declared.standings.Standings.TheInside as standings

-- the offers come by place, in 64 bits; the lists have each party's, and the places of those that are made to it; the set has
-- who made them; the map finds them by party and local name
pub record AreFound (s : standings.Inside) : Type 0 where
  pub by_place : ByPlace s.placed
  pub fits : All (λ offer. offer.place < 2 ^ 64) s.placed
  pub own : HasOwn s.own s.placed
  pub made_to : HasMadeTo s.made_to s.placed
  pub sent : HasSent s.senders s.placed
  pub named : FindsNames s.named s.placed

-- the map finds the couplings, their slots are in order, and there is room for as many more as is said
pub record AreMated (c : couplings.Inside) : Type 0 where
  pub finds : FindsMates c.mated (couplings_in c.made.items)
  pub by_making : SlotsByMaking c.made.items
  pub list_room : vec_len c.made + c.room ≤ vec_capacity c.made
  pub map_room : 2 * c.room ≤ spare c.mated
