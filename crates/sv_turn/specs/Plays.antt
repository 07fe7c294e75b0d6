-- What each step tells the seat that makes it.
use Rattle.std.specs.Prelude.{◌≡◌, ◌≢◌, ℕ, ◌%◌, ◌^◌, List, [], ◌∷◌, length, Option, Some}
use Rattle.atomic_table.specs.Table.{Me, Step, rest}
use Rattle.sv_turn.specs.declared.view.SeatStage.{SeatStage}
use Rattle.sv_turn.specs.declared.view.SeatStage.TheVariants.{Away, Waits, Holds}
use Rattle.sv_turn.specs.declared.view.View.{View}
use Rattle.sv_turn.specs.Journals.{places_of, Begins}
use Rattle.sv_turn.specs.Views.{numbered_view, ticket_of, at_stage, holder_of, counted_view}

-- the word that a ticket stands for: its remainder
abbrev pub ticket_word : SeatStage → ℕ
ticket_word Away = 0
ticket_word (Waits ticket) = ticket % 2 ^ 64
ticket_word (Holds ticket) = ticket % 2 ^ 64

module _ {S E : Type 0} where
  -- the party takes its number of the table
  abbrev pub NumbersParty : Step (Option S) → Me (Option S) (View E) → ℕ → Me (Option S) (View E) → Type 0
  NumbersParty st me found me' = me' ≡ (numbered_view st.first me.0, me.1)

  -- the party draws a ticket, which is what it finds, as a number of 64 bits, and waits with it
  abbrev pub Draws : Step (Option S) → Me (Option S) (View E) → ℕ → Me (Option S) (View E) → Type 0
  Draws st me found me' = (ticket : ℕ) × (me' ≡ (at_stage (Waits ticket) me.0, me.1)) × (found ≡ ticket % 2 ^ 64)

  -- what the state is where the seat's turn has come
  pub record FindsState (entries : S → List E) (members_of : S → List ℕ) (party_of : E → ℕ) (v : View E) (y : S) : Type 0 where
    pub begins : Begins v.account.known (entries y)
    pub places : v.account.places ≡ places_of party_of v.account.party (entries y)
    pub members : members_of y ≡ v.members

  -- the party looks at the ticket whose turn it is: at its own the state comes out, at any other nothing changes
  abbrev pub Looks : (S → List E) → (S → List ℕ) → (E → ℕ) → Step (Option S) → Me (Option S) (View E) → ℕ → Me (Option S) (View E) → Type 0
  Looks entries members_of party_of st me found me' =
      (found ≡ ticket_word me.0.stage → (y : S) × (me' ≡ (holder_of (ticket_of me.0.stage) (entries y) me.0, (0, Some y) ∷ me.1)) × FindsState entries members_of party_of me.0 y) × (found ≢ ticket_word me.0.stage → me' ≡ me)

  -- the party counts the entries of the state that is out
  abbrev pub Counts : (S → List E) → Step (Option S) → Me (Option S) (View E) → ℕ → Me (Option S) (View E) → Type 0
  Counts entries st me found me' = (y : S) → me.1 ≡ (0, Some y) ∷ [] → me' ≡ (counted_view (length (entries y)) (entries y) me.0, me.1)

  -- the party puts the state back and goes away
  abbrev pub Releases : Step (Option S) → Me (Option S) (View E) → ℕ → Me (Option S) (View E) → Type 0
  Releases st me found me' = me' ≡ (at_stage Away me.0, rest me.1)

  -- the seat's turn has come: the slot is out with it
  abbrev pub IsHere : (S → List E) → (S → List ℕ) → (E → ℕ) → Me (Option S) (View E) → Me (Option S) (View E) → Type 0
  IsHere entries members_of party_of me me' = (y : S) × (me' ≡ (holder_of (ticket_of me.0.stage) (entries y) me.0, (0, Some y) ∷ me.1)) × FindsState entries members_of party_of me.0 y
