-- The parties of a run between two turns: what each did so far.
use Rattle.std.specs.Prelude.{Option, Some, IsSome, ◌≡◌, ◌⊎◌, ◌<◌, ◌+◌, ◌-◌, ◌++◌, ℕ, Bool, true, false, List, [], ◌∷◌, All, IsTrue, count_by, length, if◌then◌else◌}
use Rattle.apl_arrays.specs.Array.{PlainArray}
use Rattle.sv_rules.specs.Limits.{most_entries}
use Rattle.apl_io.specs.Content.{Told}
use Rattle.auxiliaries.specs.Run.{IsReplierRun}
use Rattle.bundle_text.specs.User.{PlainUser}
use Rattle.sv_core.specs.Core.{PlainCore}
use Rattle.sv_events.specs.Answer.{PlainAnswer}
use Rattle.sv_events.specs.declared.event.Act.{Act}
use Rattle.sv_events.specs.declared.work.Work.TheVariants.{Idle}
use Rattle.sv_rules.specs.Entries.{Entries, counted_entries, has_left, is_full, is_held, kind_of}
use Rattle.sv_rules.specs.Legal.{is_still_held}
use Rattle.sv_rules.specs.Work.{work_of}
use Rattle.session_rules.specs.Auxiliaries.{events_of}
use Rattle.session_rules.specs.Session.{session_of}
use Rattle.session_rules.specs.SessionLaws.{tells_full}
use Rattle.session_rules.specs.Shelf.{Exchange, ShelfReply, shelf_replies_in}
use Rattle.session_rules.specs.Run.{Dealings}
use Rattle.session_rules.specs.UserPart.{IsUserPart}
use Rattle.apl_session.specs.PlainSession.{HasCome, PlainSession}
use Rattle.apl_session.specs.declared.session.SessionStage.{SessionStage}
use Rattle.apl_session.specs.declared.session.SessionStage.TheVariants as stage
use Rattle.party_turns.specs.Participants.{participant_of, participant_with}
use Rattle.party_turns.specs.Sittings.{EndsIn, ExchangesFollow, Sitting, seats_in}
use Rattle.replay_rules.specs.SoFar.{IsSoFar}
use Rattle.replay_rules.specs.Turns.{served, turn}
use Rattle.party_turns.specs.declared.auxiliary.Auxiliary.{Auxiliary}
use Rattle.party_turns.specs.declared.seat.UserSeat.{UserSeat}

-- a session waits for an answer
abbrev pub is_waiting : SessionStage → Bool
is_waiting stage.Ready = false
is_waiting stage.Waiting = true
is_waiting stage.Finished = false
is_waiting stage.Failed = false

-- the user of a session that has not left is so far, whatever replies follow those of its exchanges
abbrev pub IsUserSoFar : {K : Type 0} → Entries → List Exchange → Bool → PlainSession K → Type 0
IsUserSoFar journal exchanges waiting s = (more : List ShelfReply) → IsSoFar journal (participant_with (shelf_replies_in exchanges ++ more) s) waiting

-- a user is as far as its session says
abbrev pub IsSessionSoFar : {K : Type 0} → Entries → List Exchange → PlainSession K → Type 0
IsSessionSoFar journal exchanges s = IsUserSoFar journal exchanges (is_waiting s.stage) s

-- a user whose act is tried again: it is so far, or it is but for the act that its session asks now, since the journal is full and it waits for an earlier one
abbrev pub IsRetried : {K : Type 0} → Entries → List Exchange → PlainSession K → Type 0
IsRetried journal exchanges s = IsSessionSoFar journal exchanges s ⊎ (IsTrue (is_full journal) × IsUserSoFar journal exchanges false s)

-- a session asks this act now, whatever replies follow, and its user is so far but for it
pub record AsksNow {K : Type 0} (journal : Entries) (exchanges : List Exchange) (asked : Act) (s : PlainSession K) : Type 0 where
  pub asks : (more : List ShelfReply) → (session_of s.lines s.answers (shelf_replies_in exchanges ++ more)).waits ≡ Some asked
  pub so_far : IsUserSoFar journal exchanges false s

-- a session asks some act whose user tries again
pub record TriesAgain {K : Type 0} (journal : Entries) (exchanges : List Exchange) (s : PlainSession K) : Type 0 where
  pub asks : (more : List ShelfReply) → IsSome (session_of s.lines s.answers (shelf_replies_in exchanges ++ more)).waits
  pub retried : IsRetried journal exchanges s

-- a session that is given an answer, unless it is to wait, and is then inside like another
abbrev pub heard : {K : Type 0} → PlainAnswer → PlainSession K → PlainSession K → PlainSession K
heard answer now s = if is_held (kind_of answer) then s else record s { acts = now.acts; answers = s.answers ++ answer ∷ []; stage = stage.Ready; inside = now.inside }

-- the user of a session
abbrev pub user_of : {K : Type 0} → PlainSession K → PlainUser
user_of s = record { number = s.user; lines = s.lines }

-- what a session echoed and printed, with these exchanges
abbrev pub echoed_and_printed : {K : Type 0} → List Exchange → PlainSession K → List (List ℕ)
echoed_and_printed exchanges s = (session_of s.lines s.answers (shelf_replies_in exchanges)).terminal.transcript

module _ {K : Type 0} (told : K → Option (Told (ℕ × List ℕ))) (faults : K → ℕ) where
  -- a user in a run that has not left: memory did not run out for it, its session has had these exchanges with its shelf, and it is so far
  pub record SittingIsPresent (journal : Entries) (sitting : Sitting K) : Type 0 where
    pub here : sitting.seat.is_lost ≡ false
    pub come : HasCome told faults sitting.lent sitting.exchanges sitting.seat.session
    pub so_far : IsSessionSoFar journal sitting.exchanges sitting.seat.session

  -- a user in a run: while it has not left, it is so far
  abbrev pub IsSeated : Entries → Sitting K → Type 0
  IsSeated journal sitting = has_left journal sitting.seat.session.user ≡ false → SittingIsPresent journal sitting

  -- some users are seated
  pub record AreSeated (journal : Entries) (seats : List (UserSeat K)) : Type 0 where
    pub sittings : List (Sitting K)
    pub here : seats_in sittings ≡ seats
    pub seated : All (IsSeated journal) sittings

  -- one user is
  pub record IsOneSeated (journal : Entries) (seat : UserSeat K) : Type 0 where
    pub sitting : Sitting K
    pub here : sitting.seat ≡ seat
    pub seated : IsSeated journal sitting

  -- once it has left, it has its part
  pub record HasPart (journal : Entries) (sitting : Sitting K) : Type 0 where
    pub finished : sitting.seat.session.stage ≡ stage.Finished
    pub come : HasCome told faults sitting.lent sitting.exchanges sitting.seat.session
    pub part : IsUserPart journal (user_of sitting.seat.session) sitting.exchanges (echoed_and_printed sitting.exchanges sitting.seat.session)

  -- a user that has left has its part
  abbrev pub SittingIsWhole : Entries → Sitting K → Type 0
  SittingIsWhole journal sitting = has_left journal sitting.seat.session.user ≡ true → HasPart journal sitting

  -- memory did not run out for a user, and once it has left, it has its part
  abbrev pub IsWholeUnlessLost : Entries → Sitting K → Type 0
  IsWholeUnlessLost journal sitting = sitting.seat.is_lost ≡ false → SittingIsWhole journal sitting

-- the same user, with its lines
abbrev pub IsSameUser : {K : Type 0} → PlainSession K → PlainSession K → Type 0
IsSameUser before after = after ≡ record before { acts = after.acts; answers = after.answers; stage = after.stage; shelf = after.shelf; inside = after.inside }

-- the same user with the shelf that it was lent, and exchanges that follow
pub record IsSameSitting {K : Type 0} (before after : Sitting K) : Type 0 where
  pub user : IsSameUser before.seat.session after.seat.session
  pub lent : after.lent ≡ before.lent
  pub follow : ExchangesFollow before.exchanges after.exchanges

-- a turn of a party adds entries of its own alone
pub record GrowsBy (party : ℕ) (before after : PlainCore) : Type 0 where
  pub users : after.users ≡ before.users
  pub entries : Entries
  pub own : All (λ e. e.party ≡ party) entries
  pub journal : after.journal ≡ entries ++ before.journal

-- what a user may still do: it has its leave before it, and the lines that no full answer ended
abbrev pub user_work : {K : Type 0} → Entries → PlainSession K → ℕ
user_work journal s = if has_left journal s.user then 0 else 1 + (length s.lines - count_by tells_full s.answers)

-- how much may still be done in a journal, and by a user there
abbrev pub work_with : {K : Type 0} → Entries → PlainSession K → ℕ
work_with journal s = (most_entries - counted_entries journal) + user_work journal s

-- a user that has not left goes on: less is left to do; or it is still held, and nothing has changed
abbrev pub GoesOn : {K : Type 0} → PlainCore → PlainSession K → PlainCore → PlainSession K → Type 0
GoesOn before s after now =
    has_left before.journal s.user ≡ false
    → (work_with after.journal now < work_with before.journal s) ⊎ (IsTrue (is_still_held before.users before.journal s.user) × (after ≡ before) × (now ≡ s))

-- a user's turn was one that the rules of turns tell, in whatever dealings it ends
abbrev pub IsTurn : {K : Type 0} → PlainCore → PlainSession K → PlainCore → Sitting K → Type 0
IsTurn before s after now =
    (final : Dealings) → EndsIn final now → turn before.users before.journal (participant_of final s) ≡ record { journal = after.journal; user = participant_of final now.seat.session }

module _ {K : Type 0} (told : K → Option (Told (ℕ × List ℕ))) (faults : K → ℕ) where
  -- a session that waited heard the answer to its act, or waits on: its shelf was not called, it is so far, and its turn was one that these rules tell
  pub record HasHeard (lent : K) (exchanges : List Exchange) (before : PlainCore) (s : PlainSession K) (after : PlainCore) (now : PlainSession K) : Type 0 where
    pub come : HasCome told faults lent exchanges now
    pub so_far : IsSessionSoFar after.journal exchanges now
    pub turn : (more : List ShelfReply) → turn before.users before.journal (participant_with (shelf_replies_in exchanges ++ more) s) ≡ record { journal = after.journal; user = participant_with (shelf_replies_in exchanges ++ more) now }

  -- a user that had not left took a turn, with some exchanges more with its shelf: it is so far, or has its part
  pub record HasTurned (before : PlainCore) (sitting : Sitting K) (after : PlainCore) (now : Sitting K) : Type 0 where
    pub same : IsSameSitting sitting now
    pub seated : IsSeated told faults after.journal now
    pub whole : SittingIsWhole told faults after.journal now
    pub turn : IsTurn before sitting.seat.session after now

  -- so from wherever it sat
  abbrev pub TakesTurn : PlainCore → UserSeat K → PlainCore → UserSeat K → Type 0
  TakesTurn before seat after seat_then =
      (sitting : Sitting K) → sitting.seat ≡ seat → SittingIsPresent told faults before.journal sitting → (now : Sitting K) × (now.seat ≡ seat_then) × HasTurned before sitting after now

-- what answers behind an auxiliary came from one state to another by its entries
abbrev pub HasAnswered : {X : Type 0} → (X → ℕ → X → Type 0) → (X → ℕ → PlainArray → PlainArray → X → Type 0) → X → Entries → Auxiliary X → Type 0
HasAnswered forgets replies start journal aux = IsReplierRun forgets replies start (events_of journal aux.party) aux.replier

-- an auxiliary's turn was one that these rules tell: it gave none of its replies, or the next one
pub record IsServed (party : ℕ) (before after : Entries) : Type 0 where
  pub made : List PlainArray
  pub turn : (rest : List PlainArray) → served before party (made ++ rest) ≡ record { journal = after; replies = rest }

-- an auxiliary has no work where its turn adds nothing
abbrev pub IsIdleIf : ℕ → Entries → Entries → Type 0
IsIdleIf party before after = after ≡ before → work_of before party ≡ Idle
