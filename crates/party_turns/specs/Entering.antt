-- A user's turn in three parts: what is done before it, in it and behind it.
use Rattle.std.specs.Prelude.{◌≡◌, ◌++◌, ◌<◌, ◌∷◌, ℕ, Bool, true, false, List, IsSome, Option, Some, None}
use Rattle.apl_io.specs.Content.{Told}
use Rattle.sv_core.specs.Core.{PlainCore, core_after}
use Rattle.sv_events.specs.Answer.{PlainAnswer}
use Rattle.sv_events.specs.Entry.{PlainEntry}
use Rattle.sv_events.specs.declared.event.Act.{Act}
use Rattle.sv_events.specs.declared.event.Act.TheVariants as act
use Rattle.sv_rules.specs.Entries.{Entries, has_left}
use Rattle.session_rules.specs.Session.{session_of}
use Rattle.session_rules.specs.Shelf.{Exchange, ShelfReply, shelf_replies_in}
use Rattle.apl_session.specs.PlainSession.{GoesTo, HasCome, PlainSession, asked}
use Rattle.apl_session.specs.declared.session.SessionStage.TheVariants as stage
use Rattle.replay_rules.specs.Turns.{turn}
use Rattle.party_turns.specs.Participants.{participant_with}
use Rattle.party_turns.specs.SoFar.{AsksNow, GoesOn, IsSameUser, IsSessionSoFar, IsUserSoFar, heard, is_waiting, work_with}
use Rattle.party_turns.specs.declared.intent.Intent.{Intent}
use Rattle.party_turns.specs.declared.intent.Intent.TheVariants as intent

-- ---- in the turn

-- one entry of a party was made
pub record IsOneMore (party : ℕ) (before after : PlainCore) : Type 0 where
  pub users : after.users ≡ before.users
  pub entry : PlainEntry
  pub own : entry.party ≡ party
  pub journal : after.journal ≡ entry ∷ before.journal

-- one was, or nothing has changed
abbrev pub IsOneIf : Bool → ℕ → PlainCore → PlainCore → Type 0
IsOneIf true party before after = IsOneMore party before after
IsOneIf false party before after = after ≡ before

-- a session that is given an answer, if there is one, and is then inside like another
abbrev pub heard_if : {K : Type 0} → Option PlainAnswer → PlainSession K → PlainSession K → PlainSession K
heard_if None now s = s
heard_if (Some answer) now s = heard answer now s

-- a user whose lines are done is so far but for its leave, whatever replies follow
pub record IsAtEnd {K : Type 0} (journal : Entries) (exchanges : List Exchange) (s : PlainSession K) : Type 0 where
  pub finished : s.stage ≡ stage.Finished
  pub so_far : IsUserSoFar journal exchanges false s
  pub asks : (more : List ShelfReply) → (session_of s.lines s.answers (shelf_replies_in exchanges ++ more)).waits ≡ None
  pub calls : (more : List ShelfReply) → (session_of s.lines s.answers (shelf_replies_in exchanges ++ more)).exchanges ≡ exchanges

-- a session asks the act that waits in it, and its user is so far but for it
pub record AsksOwn {K : Type 0} (journal : Entries) (exchanges : List Exchange) (s : PlainSession K) : Type 0 where
  pub act : Act
  pub own : asked s ≡ Some act
  pub now : AsksNow journal exchanges act s

-- a user may do what it is about to do
abbrev pub IsReady : {K : Type 0} → Entries → List Exchange → Intent → PlainSession K → Type 0
IsReady journal exchanges intent.Make s = (s.stage ≡ stage.Waiting) × AsksOwn journal exchanges s
IsReady journal exchanges intent.TryAgain s = (s.stage ≡ stage.Waiting) × IsSessionSoFar journal exchanges s
IsReady journal exchanges intent.Leave s = IsAtEnd journal exchanges s

-- an act that was made or tried again brings a user on, once its session has heard the answer, if there is one: it has not left, it is so far, and its turn was that of a replay
pub record BringsOn {K : Type 0} (before : PlainCore) (exchanges : List Exchange) (s : PlainSession K) (after : PlainCore) (answer : Option PlainAnswer) : Type 0 where
  pub stays : has_left after.journal s.user ≡ false
  pub so_far : (now : PlainSession K) → IsSessionSoFar after.journal exchanges (heard_if answer now s)
  pub turn : (now : PlainSession K) (more : List ShelfReply) → turn before.users before.journal (participant_with (shelf_replies_in exchanges ++ more) s) ≡ record { journal = after.journal; user = participant_with (shelf_replies_in exchanges ++ more) (heard_if answer now s) }
  pub goes_on : (now : PlainSession K) → GoesOn before s after (heard_if answer now s)

-- and an act that was made leaves less to do
pub record BringsFurther {K : Type 0} (before : PlainCore) (exchanges : List Exchange) (s : PlainSession K) (after : PlainCore) (answer : Option PlainAnswer) : Type 0 where
  pub on : BringsOn before exchanges s after answer
  pub less : (now : PlainSession K) → work_with after.journal (heard_if answer now s) < work_with before.journal s

-- what becomes of a user by what it did
abbrev pub Brings : {K : Type 0} → PlainCore → List Exchange → PlainSession K → Intent → PlainCore → Option PlainAnswer → Type 0
Brings before exchanges s intent.Make after answer = BringsFurther before exchanges s after answer
Brings before exchanges s intent.TryAgain after answer = BringsOn before exchanges s after answer
Brings before exchanges s intent.Leave after answer = (after ≡ core_after before s.user act.Leave) × (answer ≡ None)

-- ---- before it

module _ {K : Type 0} (told : K → Option (Told (ℕ × List ℕ))) (faults : K → ℕ) where
  -- a session that waited for no answer went on to what it asks
  pub record WentOn (s now : PlainSession K) : Type 0 where
    pub ready : is_waiting s.stage ≡ false
    pub same : IsSameUser s now
    pub answers : now.answers ≡ s.answers
    pub goes : (lent : K) (exchanges : List Exchange) → HasCome told faults lent exchanges s → GoesTo told faults lent exchanges now

  -- a user found what it is about to do: what its session asks, or to try again
  abbrev pub Finds : PlainSession K → Intent → PlainSession K → Type 0
  Finds s intent.Make now = WentOn s now × (now.stage ≡ stage.Waiting) × IsSome (asked now)
  Finds s intent.TryAgain now = (s.stage ≡ stage.Waiting) × (now ≡ s)
  Finds s intent.Leave now = WentOn s now × (now.stage ≡ stage.Finished) × (asked now ≡ None)
