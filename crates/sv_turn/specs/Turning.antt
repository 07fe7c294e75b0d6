-- Turns as contracts see them.
use Rattle.std.specs.Prelude.{◌≡◌, ℕ, List, [], ◌∷◌, Option, None}
use Rattle.std.specs.Borrow.{MutBor, Fml, follows}
use mir.Syntax.{named}
use denote.RattleType.{RattleType}
use Rattle.atomic_table.specs.Seated.{TableId}
use Rattle.atomic_table.specs.declared.shared.Seat as place
use Rattle.sv_turn.specs.declared.history.History as history
use Rattle.sv_turn.specs.declared.seat.Seat.{Seat}
use Rattle.sv_turn.specs.declared.view.SeatStage.TheVariants.{Holds}
use Rattle.sv_turn.specs.declared.view.View.{View}
use Rattle.sv_turn.specs.declared.turn.Turn.{Turn}
use Rattle.sv_turn.specs.contracts.turn.Turn.{the_row}
use Rattle.sv_turn.specs.Views.{ticket_of}

module _ {S E : Type 0} where
  -- the journal that the turn found, with its entry once it is counted
  abbrev pub journal_in : Turn S E → List E
  journal_in turn = turn.place.me.0.account.known

  -- the members that the turn found
  abbrev pub members_in : Turn S E → List ℕ
  members_in turn = turn.place.me.0.members

  -- whose turn it is: the table of its turnstile
  abbrev pub table_in : Turn S E → TableId
  table_in turn = turn.place.table_id

  -- the right to enter is out of its seat, with one part of the right to close; it has its turn at this table, and its state is out of the slot
  pub record IsInTurn (table : TableId) (out : place.Seat (Option S) (View E)) (seat : Seat E) : Type 0 where
    pub at_table : out.table_id ≡ table
    pub emptied : out.me.1 ≡ (0, None) ∷ []
    pub holds : out.me.0.stage ≡ Holds (ticket_of out.me.0.stage)
    pub light : out.me.0.weight ≡ 1
    pub alone : out.me.0.kept ≡ []
    pub named : out.me.0.account.party ≡ seat.party
    pub told : out.me.0.account.places ≡ seat.mine.items
    pub left : seat.badge.views ≡ []

  -- the turn is as `enter` gave it, whatever was done to the state
  abbrev pub IsGiven : Turn S E → Type 0
  IsGiven turn = IsInTurn turn.stile.now.table.shared.table_id turn.place turn.seat.now

  -- the turn with this state
  abbrev pub with_state : Turn S E → S → Turn S E
  with_state turn y = record turn { state = y }

module _ (S E : RattleType) (g : history.Ghosts S.Denot E.Denot) where
  -- the turn ends with the last state behind r
  abbrev pub LendsState : MutBor (Turn S.Denot E.Denot) → MutBor S.Denot → Fml
  LendsState t r = follows (the_row (record { mir = named 1; lft = [] }) S E g) S t.ghost_name r.ghost_name (with_state t.now)
