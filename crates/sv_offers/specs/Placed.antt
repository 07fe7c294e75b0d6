-- Offers that are kept in the order of their places.
use Rattle.std.specs.Prelude.{◌≡◌, ℕ, All}
use Rattle.std.specs.BTreeMap.{BTreeMap, values}
use Rattle.sv_offers.specs.Places.{ByPlace}
use Rattle.sv_offers.specs.declared.placed.PlacedOffers.TheInside.{Inside}
use Rattle.sv_rules.specs.declared.standing.Standing.{Standing}

-- each offer is kept under its place
abbrev pub AreUnderPlaces : BTreeMap ℕ Standing → Type 0
AreUnderPlaces placed = All (λ entry. entry.0 ≡ entry.1.place) placed.entries

-- each offer is under its place, and they come by place
pub record ArePlaced (placed : Inside) : Type 0 where
  pub under : AreUnderPlaces placed.offers
  pub by_place : ByPlace (values placed.offers)
