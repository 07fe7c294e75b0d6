-- The rule that every step keeps.
use Rattle.std.specs.Prelude.{◌≡◌, ◌≢◌, ℕ, ◌+◌, ◌%◌, ◌^◌, ◌<◌, ◌≤◌, true, List, [], ◌∷◌, length, All, sum_by, Option, Some}
use mathlib.Core.Option.{none, some}
use lib.ListN.{get_elem?}
use Rattle.atomic_table.specs.Table.{State}
use Rattle.sv_turn.specs.declared.view.SeatStage.{SeatStage}
use Rattle.sv_turn.specs.declared.view.SeatStage.TheVariants.{Away, Waits, Holds}
use Rattle.sv_turn.specs.declared.view.Account.{Account}
use Rattle.sv_turn.specs.declared.view.View.{View}
use Rattle.sv_turn.specs.Journals.{places_of, Begins}
use Rattle.sv_turn.specs.Views.{weight_of, tickets_of, turns_of, tickets}

-- How far tickets, turns and numbers have come, whose they are, and what was entered. Numbers have no bound here; the words are their remainders
pub record TurnCourse (E : Type 0) : Type 0 where
  pub taken : ℕ
  pub served : ℕ
  pub top : ℕ
  pub maker : ℕ
  pub owner : ℕ → ℕ
  pub holder : ℕ → ℕ
  pub journal : List E

module _ {E : Type 0} where
  -- ticket, serving, length and numbers
  abbrev pub words_of : TurnCourse E → List ℕ
  words_of c = (c.taken % 2 ^ 64) ∷ (c.served % 2 ^ 64) ∷ (length c.journal % 2 ^ 64) ∷ c.top ∷ []

  -- a ticket was taken, was not yet served, and is the seat's alone; the seat that has its turn knows the whole journal
  abbrev pub TicketFits : TurnCourse E → ℕ → List E → SeatStage → Type 0
  TicketFits c seat known Away = Unit {0}
  TicketFits c seat known (Waits ticket) = (c.served ≤ ticket) × (ticket < c.taken) × (c.holder ticket ≡ seat)
  TicketFits c seat known (Holds ticket) = (ticket ≡ c.served) × (ticket < c.taken) × (c.holder ticket ≡ seat) × (known ≡ c.journal)

  -- the party is the seat's alone, its places are all that the journal has of it, and the journal begins with what is known
  pub record IsAccountOf (party_of : E → ℕ) (c : TurnCourse E) (seat : ℕ) (a : Account E) : Type 0 where
    pub named : 0 < a.party
    pub numbered : a.party ≤ c.top
    pub owned : c.owner a.party ≡ seat
    pub places : a.places ≡ places_of party_of a.party c.journal
    pub known : Begins a.known c.journal

  -- what holds of each view. A spent one has no weight and no party
  pub record Fits (party_of : E → ℕ) (members : List ℕ) (c : TurnCourse E) (seat : ℕ) (v : View E) : Type 0 where
    pub made : v.maker ≡ true → (seat ≡ c.maker) × (v.last ≡ c.top)
    pub members_kept : 0 < v.weight → v.members ≡ members
    pub heavy : 0 < v.account.party → 0 < v.weight
    pub seated : tickets v.stage ≤ v.account.party
    pub mine : 0 < v.account.party → IsAccountOf party_of c seat v.account
    pub others : All (λ a. IsAccountOf party_of c seat a × (a.party ≢ v.account.party)) v.kept
    pub ticketed : TicketFits c seat v.account.known v.stage

-- the account has the places of its party in the journal, which begins with what it knows
abbrev pub IsTold : {E : Type 0} → (E → ℕ) → List E → Account E → Type 0
IsTold party_of journal a = (a.places ≡ places_of party_of a.party journal) × Begins a.known journal

-- the table is in order, where so many parties were handed to the maker, and the state at the start had these members
pub record InOrder {S E : Type 0} (entries : S → List E) (members_of : S → List ℕ) (party_of : E → ℕ) (parties : ℕ) (members : List ℕ) (s : State (Option S) (View E)) : Type 0 where
  pub course : TurnCourse E
  pub words : s.words ≡ words_of course
  pub few : parties < 2 ^ 64
  pub weights : sum_by weight_of s.views ≡ parties
  pub waiting : sum_by tickets_of s.views + course.served ≡ course.taken
  pub one : sum_by turns_of s.views ≤ 1
  pub home : sum_by turns_of s.views ≡ 0 → (y : S) × (s.homes ≡ some (Some y) ∷ []) × (entries y ≡ course.journal) × (members_of y ≡ members)
  pub out : 0 < sum_by turns_of s.views → s.homes ≡ none ∷ []
  pub low : All (λ e. party_of e ≤ course.top) course.journal
  pub each : (seat : ℕ) (v : View E) → get_elem? s.views seat ≡ some v → Fits party_of members course seat v
