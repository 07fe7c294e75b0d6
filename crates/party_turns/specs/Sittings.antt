-- The users of a run with their shelves: what each was lent, and what it was asked and answered so far.
use Rattle.std.specs.Prelude.{◌≡◌, ◌++◌, List, [], map}
use Rattle.session_rules.specs.Run.{Dealings}
use Rattle.session_rules.specs.Shelf.{Exchange}
use Rattle.party_turns.specs.declared.seat.UserSeat.{UserSeat}

-- a user in a run, the shelf that it was lent as it was then, and the exchanges with it, the newest first
pub record Sitting (K : Type 0) : Type 0 where
  pub seat : UserSeat K
  pub lent : K
  pub exchanges : List Exchange

-- a user whose shelf was not asked anything yet
abbrev pub newly : {K : Type 0} → UserSeat K → Sitting K
newly seat = record { seat = seat; lent = seat.session.shelf; exchanges = [] }

-- the users
abbrev pub seats_in : {K : Type 0} → List (Sitting K) → List (UserSeat K)
seats_in sittings = map (λ sitting. sitting.seat) sittings

-- the shelves as they were lent
abbrev pub lent_to : {K : Type 0} → List (Sitting K) → List K
lent_to sittings = map (λ sitting. sitting.lent) sittings

-- some exchanges are had, behind which others follow
pub record ExchangesFollow (earlier all : List Exchange) : Type 0 where
  pub more : List Exchange
  pub is : all ≡ more ++ earlier

-- in the end these are all dealings of a user
abbrev pub EndsIn : {K : Type 0} → Dealings → Sitting K → Type 0
EndsIn final sitting = ExchangesFollow sitting.exchanges (final sitting.seat.session.user)
