-- What holds of the table's inside.
use Rattle.std.specs.Prelude.{◌≤◌, length, vec_capacity}
use Rattle.sv_offers.specs.Places.{FitTogether}
use Rattle.sv_offers.specs.Table.{PlainOffers}
use Rattle.sv_offers.specs.declared.table.Offers.TheInside.{Inside}

-- the offers and the couplings
abbrev pub plain_offers : Inside → PlainOffers
plain_offers t = record { offers = t.offers; coupled = t.coupled.items }

-- they fit together, and as many offers as stand may be noted, and coupled anew
pub record IsWholeIndex (t : Inside) : Type 0 where
  pub fit : FitTogether (plain_offers t)
  pub note_room : length t.offers ≤ vec_capacity t.reopened
  pub pair_room : length t.offers ≤ t.coupled.room
