-- What a seat knows, and how the steps change it. Party 0 is nobody.
use Rattle.std.specs.Prelude.{◌≡◌, ℕ, ◌+◌, ◌-◌, true, false, List, [], ◌∷◌, ◌++◌}
use Rattle.sv_turn.specs.declared.view.SeatStage.{SeatStage}
use Rattle.sv_turn.specs.declared.view.SeatStage.TheVariants.{Away, Waits, Holds}
use Rattle.sv_turn.specs.declared.view.Account.{Account}
use Rattle.sv_turn.specs.declared.view.View.{View}

-- 1 with a ticket, else 0
abbrev pub tickets : SeatStage → ℕ
tickets Away = 0
tickets (Waits ticket) = 1
tickets (Holds ticket) = 1

-- 1 while the slot is out with the seat, else 0
abbrev pub turns : SeatStage → ℕ
turns Away = 0
turns (Waits ticket) = 0
turns (Holds ticket) = 1

-- the true number of a ticket
abbrev pub ticket_of : SeatStage → ℕ
ticket_of Away = 0
ticket_of (Waits ticket) = ticket
ticket_of (Holds ticket) = ticket

module _ {E : Type 0} where
  -- the account of a party that has seen nothing
  abbrev pub new_account : ℕ → Account E
  new_account party = record { party = party; places = []; known = [] }

  -- the maker, before it numbers anybody
  abbrev pub maker_of : ℕ → List ℕ → View E
  maker_of parties members = record { maker = true; last = 0; weight = parties; members = members; account = new_account 0; stage = Away; kept = [] }

  -- the maker with so many parts of the right to close, after it numbered this party and before it numbers the next
  abbrev pub maker_after : ℕ → List ℕ → ℕ → View E
  maker_after weight members last = record { maker = true; last = last; weight = weight; members = members; account = new_account 0; stage = Away; kept = [] }

  -- a view that was joined into another
  abbrev pub spent : View E
  spent = record { maker = false; last = 0; weight = 0; members = []; account = new_account 0; stage = Away; kept = [] }

  -- the maker with a party
  abbrev pub numbered_view : ℕ → View E → View E
  numbered_view party v = record v { account = new_account party; last = party }

  -- the maker after a split
  abbrev pub left_of : View E → View E
  left_of v = record v { account = new_account 0; weight = v.weight - 1 }

  -- the seat that a split makes
  abbrev pub right_of : View E → View E
  right_of v = record { maker = false; last = 0; weight = 1; members = v.members; account = v.account; stage = Away; kept = [] }

  -- a seat that took in another
  abbrev pub joined_view : View E → View E → View E
  joined_view v w = record v { weight = v.weight + w.weight; kept = v.kept ++ w.account ∷ w.kept }

  -- the seat at this stage
  abbrev pub at_stage : SeatStage → View E → View E
  at_stage stage v = record v { stage = stage }

  -- the seat with its turn, after it found this journal
  abbrev pub holder_of : ℕ → List E → View E → View E
  holder_of ticket journal v = record v { stage = Holds ticket; account = record { party = v.account.party; places = v.account.places; known = journal } }

  -- the seat after its entry was counted, at this place
  abbrev pub counted_view : ℕ → List E → View E → View E
  counted_view place journal v = record v { account = record { party = v.account.party; places = v.account.places ++ place ∷ []; known = journal } }

  -- its own account, and those that it took in
  abbrev pub accounts_of : View E → List (Account E)
  accounts_of v = v.account ∷ v.kept

  -- the weight that a party holds
  abbrev pub weight_of : View E → ℕ
  weight_of v = v.weight

  -- the tickets that a party holds
  abbrev pub tickets_of : View E → ℕ
  tickets_of v = tickets v.stage

  -- the turns that a party holds
  abbrev pub turns_of : View E → ℕ
  turns_of v = turns v.stage

  -- the seat is outside, with one part of the right to close, and knows these places of its party's
  pub record Sits (party : ℕ) (places : List ℕ) (v : View E) : Type 0 where
    pub outside : v.stage ≡ Away
    pub light : v.weight ≡ 1
    pub alone : v.kept ≡ []
    pub named : v.account.party ≡ party
    pub told : v.account.places ≡ places
