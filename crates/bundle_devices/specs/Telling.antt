-- Devices that tell all that they keep.
use Rattle.std.specs.Prelude.{◌≢◌, ℕ, List, [], ◌∷◌, Option, Some, None, IsSomeAnd}
use Rattle.std.specs.declared.cmp.Ordering.{Ordering}
use Rattle.apl_arrays.specs.Array.{PlainArray}
use Rattle.apl_io.specs.Content.{Told, by_user_and_name, entry_of}
use Rattle.auxiliaries.specs.Run.{Event, IsReplierRun}
use Rattle.bundle_text.specs.User.{PlainUser}
use Rattle.session_rules.specs.Run.{Dealings, ServeUsers}
use Rattle.session_rules.specs.Shelf.{Exchange, IsShelfRun}

-- a device tells what it keeps, and the bytes of each entry: none is left untold
abbrev pub TellsAll : {K : Type 0} → (K → K → Ordering) → Option (Told K) → Type 0
TellsAll {K = K} order told = IsSomeAnd told (λ now. (key : K) → entry_of order now key ≢ Some None)

-- each state that a run of what answers behind an auxiliary leads through is such
abbrev pub HoldsThroughout : {S : Type 0} (forgets : S → ℕ → S → Type 0) (replies : S → ℕ → PlainArray → PlainArray → S → Type 0) → (S → Type 0) → (start : S) (events : List Event) (end : S) → IsReplierRun forgets replies start events end → Type 0
HoldsThroughout forgets replies P start [] end run = P end
HoldsThroughout forgets replies P start (event ∷ earlier) end run = HoldsThroughout forgets replies P start earlier run.0 run.1 × P end

module _ {K : Type 0} (told : K → Option (Told (ℕ × List ℕ))) (faults : K → ℕ) where
  -- each state that a user's exchanges lead a shelf through tells all
  abbrev pub TellsThroughout : (user : ℕ) (start : K) (exchanges : List Exchange) (end : K) → IsShelfRun told faults user start exchanges end → Type 0
  TellsThroughout user start [] end run = TellsAll by_user_and_name (told end)
  TellsThroughout user start (exchange ∷ earlier) end run = TellsThroughout user start earlier run.0 run.1 × TellsAll by_user_and_name (told end)

  -- and so it is with the shelf of each user
  abbrev pub AllTellThroughout : (dealings : Dealings) (users : List PlainUser) (shelves shelves_then : List K) → ServeUsers told faults dealings users shelves shelves_then → Type 0
  AllTellThroughout dealings [] shelves shelves_then served = Unit {0}
  AllTellThroughout dealings (user ∷ users) [] shelves_then served = ⊥
  AllTellThroughout dealings (user ∷ users) (shelf ∷ shelves) [] served = ⊥
  AllTellThroughout dealings (user ∷ users) (shelf ∷ shelves) (shelf_then ∷ shelves_then) served =
      TellsThroughout user.number shelf (dealings user.number) shelf_then served.0 × AllTellThroughout dealings users shelves shelves_then served.1
