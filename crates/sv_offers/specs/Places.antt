-- Offers by place, and the couplings that they are in.
use Rattle.std.specs.Prelude.{◌≡◌, ℕ, ◌<◌, ◌≤◌, ◌==◌, not, nat_lt, true, List, ◌++◌, ◌∷◌, filter, find, count_by, All, AllPairs, Option, Some, None, option_and_then, if◌then◌else◌}
use Rattle.sv_events.specs.declared.row.Ending.{Ending}
use Rattle.sv_offers.specs.Table.{PlainOffers}
use Rattle.sv_rules.specs.Coupling.{both_stand, has_place, offer_at}
use Rattle.sv_rules.specs.Standing.{without_ended}
use Rattle.sv_rules.specs.declared.coupling.Made.{Made}
use Rattle.sv_rules.specs.declared.standing.Standing.{Standing}

-- the offers come by place, no two at one
abbrev pub ByPlace : List Standing → Type 0
ByPlace offers = AllPairs (λ one other. one.place < other.place) offers

-- no place is in two couplings
abbrev pub AreOnce : List Made → Type 0
AreOnce coupled = (place : ℕ) → count_by (has_place place) coupled ≤ 1

-- the offers but that at a place
abbrev pub without_place : List Standing → ℕ → List Standing
without_place offers place = filter (λ offer. not (offer.place == place)) offers

-- the couplings but that of the offer at a place
abbrev pub without_coupling : List Made → ℕ → List Made
without_coupling coupled place = filter (λ made. not (has_place place made)) coupled

-- the offers with one more, behind those of lower places
abbrev pub with_place : List Standing → Standing → List Standing
with_place offers new = filter (λ offer. nat_lt offer.place new.place) offers ++ new ∷ filter (λ offer. not (nat_lt offer.place new.place)) offers

-- the other place of a pair
abbrev pub other_place : ℕ → Made → ℕ
other_place place made = if made.pair.a == place then made.pair.b else made.pair.a

-- the offer that an act of a party sets free where it ends the offer at a place: its partner, unless it ends this too
abbrev pub set_free : List Standing → List Made → ℕ → ℕ → Ending → Option Standing
set_free offers coupled place party ending =
    option_and_then (λ made. offer_at (without_ended offers party ending) (other_place place made)) (find (has_place place) coupled)

-- the offers with one more by place, if there is one
abbrev pub with_free : List Standing → Option Standing → List Standing
with_free offers None = offers
with_free offers (Some free) = with_place offers free

-- the offers and the couplings of a table fit together: the offers come in their order, the two offers of each coupling stand,
-- and no offer is in two
pub record FitTogether (table : PlainOffers) : Type 0 where
  pub by_place : ByPlace table.offers
  pub stand : All (λ made. both_stand table.offers made.pair ≡ true) table.coupled
  pub once : AreOnce table.coupled

-- a place is above those of all offers, and no coupling was made at it or later
pub record IsNext (table : PlainOffers) (place : ℕ) : Type 0 where
  pub above : All (λ offer. offer.place < place) table.offers
  pub later : All (λ made. made.at < place) table.coupled
