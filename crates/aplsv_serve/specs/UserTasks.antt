-- A user's part of a run on threads, as far as its seat knows the journal.
use Rattle.std.specs.Prelude.{◌≡◌, ◌≤◌, ℕ, Bool, true, false, List, Option, None, IsTrue}
use Rattle.apl_io.specs.Content.{Told}
use Rattle.sv_events.specs.Answer.{PlainAnswer}
use Rattle.sv_rules.specs.Entries.{Entries, has_left}
use Rattle.sv_rules.specs.Legal.{is_user}
use Rattle.sv_turn.specs.Seating.{known_of, spare_of}
use Rattle.session_rules.specs.Shelf.{Exchange}
use Rattle.apl_session.specs.PlainSession.{HasCome, PlainSession}
use Rattle.party_turns.specs.Entering.{IsReady, heard_if}
use Rattle.party_turns.specs.Sittings.{Sitting}
use Rattle.party_turns.specs.SoFar.{HasPart, IsSameUser, IsSeated, IsSessionSoFar, SittingIsWhole}
use Rattle.party_turns.specs.declared.intent.Intent.{Intent}
use Rattle.party_turns.specs.declared.intent.Intent.TheVariants as intent
use Rattle.party_turns.specs.declared.seat.UserSeat.{UserSeat}
use Rattle.aplsv_serve.specs.Receipts.{HasTold}
use Rattle.aplsv_serve.specs.Halls.{IsSeatAtStile, Stile, users_of_stile}
use Rattle.aplsv_serve.specs.declared.user_task.UserTask.{UserTask}

-- a user with the shelf that it was lent, and these exchanges with it
abbrev pub sitting_at : {K : Type 0} → K → UserSeat K → List Exchange → Sitting K
sitting_at lent user exchanges = record { seat = user; lent = lent; exchanges = exchanges }

-- a user goes on by what it is about to do, and does not leave
abbrev pub goes_on : Intent → Bool
goes_on intent.Make = true
goes_on intent.TryAgain = true
goes_on intent.Leave = false

-- the shelf of a user's task as it was lent
abbrev pub lent_to : {K : Type 0} → UserTask K → K
lent_to task = task.began.value.session.shelf

module _ {K : Type 0} (told : K → Option (Told (ℕ × List ℕ))) (faults : K → ℕ) where
  -- a user has come this far in a journal: while it has not left it is so far, and once it has left it has its part, and its session has told so
  pub record HasComeFar (journal : Entries) (lent : K) (user : UserSeat K) : Type 0 where
    pub exchanges : List Exchange
    pub seated : IsSeated told faults journal (sitting_at lent user exchanges)
    pub whole : SittingIsWhole told faults journal (sitting_at lent user exchanges)
    pub tells : has_left journal user.session.user ≡ true → HasTold journal exchanges user.session

  -- it will have, once its session has heard the answer of its turn, if there is one
  pub record WillHaveComeFar (journal : Entries) (lent : K) (user : UserSeat K) (answer : Option PlainAnswer) : Type 0 where
    pub exchanges : List Exchange
    pub come : HasCome told faults lent exchanges user.session
    pub so_far : has_left journal user.session.user ≡ false → (now : PlainSession K) → IsSessionSoFar journal exchanges (heard_if answer now user.session)
    pub part : has_left journal user.session.user ≡ true → (answer ≡ None) × HasPart told faults journal (sitting_at lent user exchanges)
    pub tells : has_left journal user.session.user ≡ true → HasTold journal exchanges user.session

  -- a user is about to do this: it may, with the exchanges that it had
  pub record IsAboutTo (journal : Entries) (lent : K) (user : UserSeat K) (about : Intent) : Type 0 where
    pub exchanges : List Exchange
    pub come : HasCome told faults lent exchanges user.session
    pub ready : IsReady journal exchanges about user.session

  -- a user's task at a turnstile: unless memory ran out for it, it has come far in the journal that its seat knows; and until it is done it has not left, and its seat has room for an entry
  pub record UserStands (stile : Stile) (task : UserTask K) : Type 0 where
    pub user : IsTrue (is_user (users_of_stile stile) task.user.session.user)
    pub same : IsSameUser task.began.value.session task.user.session
    pub seat : IsSeatAtStile stile task.user.session.user task.seat
    pub room : task.is_done ≡ false → 1 ≤ spare_of task.seat
    pub stays : task.is_done ≡ false → has_left (known_of task.seat) task.user.session.user ≡ false
    pub far : task.user.is_lost ≡ false → HasComeFar (known_of task.seat) (lent_to task) task.user
