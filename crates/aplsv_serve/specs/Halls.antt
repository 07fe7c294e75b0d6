-- What the parties of a run on threads share, and where their seats stand.
use Rattle.std.specs.Prelude.{◌≡◌, ◌≤◌, ℕ, List, []}
use Rattle.sv_core.specs.Core.{ArePeople, PlainCore}
use Rattle.sv_core.specs.Histories.{members_of, party_of_entry}
use Rattle.sv_events.specs.Entry.{PlainEntry}
use Rattle.sv_turn.specs.Journals.{places_of}
use Rattle.sv_turn.specs.Seating.{BelongsTo, known_of, spare_of, start_members}
use Rattle.sv_turn.specs.declared.seat.Seat.{Seat}
use Rattle.sv_turn.specs.declared.turnstile.Turnstile.{Turnstile}
use Rattle.aplsv_serve.specs.declared.hall.Hall.{Hall}

-- the turnstile of a processor, and its users
abbrev pub Stile : Type 0
Stile = Turnstile PlainCore PlainEntry

-- the users of a processor behind its turnstile
abbrev pub users_of_stile : Stile → List ℕ
users_of_stile stile = start_members members_of stile

-- the processor's users have the numbers of users, and the hall has these numbers
pub record IsHall {G : Type 0} (hall : Hall G) : Type 0 where
  pub people : ArePeople (users_of_stile hall.stile)
  pub numbers : hall.users.items ≡ users_of_stile hall.stile

-- a seat of a party: the turnstile gave it, and its places are all that the journal which it knows has of the party
pub record IsSeatAtStile (stile : Stile) (party : ℕ) (seat : Seat PlainEntry) : Type 0 where
  pub belongs : BelongsTo members_of stile seat
  pub own : seat.party ≡ party
  pub places : seat.mine.items ≡ places_of party_of_entry party (known_of seat)

-- a seat that was just given, with room for an entry
pub record IsFreshSeat (stile : Stile) (seat : Seat PlainEntry) : Type 0 where
  pub belongs : BelongsTo members_of stile seat
  pub no_places : seat.mine.items ≡ []
  pub nothing_known : known_of seat ≡ []
  pub room : 1 ≤ spare_of seat
