-- Seats and turnstiles as contracts see them.
use Rattle.std.specs.Prelude.{◌≡◌, ℕ, ◌-◌, List, [], ◌∷◌, vec_len, vec_capacity}
use Rattle.atomic_table.specs.Seated.{TableId}
use Rattle.sv_turn.specs.declared.view.Account.{Account}
use Rattle.sv_turn.specs.declared.view.View.{View}
use Rattle.sv_turn.specs.declared.seat.Seat.{Seat}
use Rattle.sv_turn.specs.declared.turnstile.Turnstile.{Turnstile}

module _ {E : Type 0} where
  -- the journal that the view of a party knows; none where it has no view
  abbrev pub known_in : List (View E) → List E
  known_in [] = []
  known_in (v ∷ views) = v.account.known

  -- the journal that the seat found at its last turn, followed by its entry where it finished one
  abbrev pub known_of : Seat E → List E
  known_of seat = known_in seat.badge.views

  -- how many places the seat still has room for
  abbrev pub spare_of : Seat E → ℕ
  spare_of seat = vec_capacity seat.mine - vec_len seat.mine

  -- the party and the places of its entries
  abbrev pub party_and_places : Seat E → ℕ × List ℕ
  party_and_places seat = (seat.party, seat.mine.items)

  -- what the seat knows of its party
  abbrev pub seat_account : Seat E → Account E
  seat_account seat = record { party = seat.party; places = seat.mine.items; known = known_of seat }

  -- a closed seat can enter nothing
  abbrev pub IsClosed : Seat E → Type 0
  IsClosed seat = seat.badge.views ≡ []

  -- the seat is not closed, is one of this table's, and knows these members
  pub record IsSeatAt (table : TableId) (members : List ℕ) (seat : Seat E) : Type 0 where
    pub view : View E
    pub here : seat.badge.views ≡ view ∷ []
    pub table_is : seat.badge.table_id ≡ table
    pub members_are : view.members ≡ members

  -- the seat was just made for this party
  pub record IsNew (table : TableId) (members : List ℕ) (seat : Seat E) : Type 0 where
    pub belongs : IsSeatAt table members seat
    pub no_places : seat.mine.items ≡ []
    pub nothing_known : known_of seat ≡ []

module _ {S E : Type 0} where
  -- the members of the state at the start
  abbrev pub start_members : (S → List ℕ) → Turnstile S E → List ℕ
  start_members members_of stile = members_of stile.table.shared.key.state.value

  -- how many seats the turnstile gave
  abbrev pub seats_given : Turnstile S E → ℕ
  seats_given stile = stile.table.shared.key.parties

  -- the seat is one that this turnstile gave, and it is not closed
  abbrev pub BelongsTo : (S → List ℕ) → Turnstile S E → Seat E → Type 0
  BelongsTo members_of stile seat = IsSeatAt stile.table.shared.table_id (start_members members_of stile) seat
