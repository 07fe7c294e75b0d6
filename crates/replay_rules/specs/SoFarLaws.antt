-- How a user goes on.
use Rattle.std.specs.Prelude.{◌≡◌, ◌≢◌, ◌++◌, Bool, true, false, List, [], ◌∷◌, Some, None, IsTrue}
use Rattle.sv_events.specs.Answer.{PlainAnswer, full}
use Rattle.sv_events.specs.Entry.{PlainEntry}
use Rattle.sv_events.specs.declared.event.Act.{Act}
use Rattle.sv_rules.specs.Entries.{Entries, is_full, is_held, is_leave, kind_of}
use Rattle.session_rules.specs.Session.{session_of}
use Rattle.session_rules.specs.Shelf.{Exchange, shelf_replies_in}
use Rattle.session_rules.specs.UserPart.{IsUserPart}
use Rattle.replay_rules.specs.SoFar.{IsSoFar}
use Rattle.replay_rules.specs.Turns.{Participant}

-- a user with an answer more
abbrev pub user_with_answer : Participant → PlainAnswer → Participant
user_with_answer user answer = record user { answers = user.answers ++ answer ∷ [] }

-- the session of a user asks this act
abbrev pub Asks : Participant → Act → Type 0
Asks user act = (session_of user.lines user.answers user.replies).waits ≡ Some act

-- an entry is a user's, and no leave
pub record IsActEntryOf (user : Participant) (e : PlainEntry) : Type 0 where
  pub own : e.party ≡ user.number
  pub stays : is_leave e.act ≡ false

-- entries of others change nothing
abbrev pub OthersChangeNothing : Type 0
OthersChangeNothing = (journal : Entries) (user : Participant) (waiting : Bool) (e : PlainEntry) → e.party ≢ user.number → IsSoFar journal user waiting → IsSoFar (e ∷ journal) user waiting

-- an act of a user that is answered, where there is room
abbrev pub AnswersAreHeard : Type 0
AnswersAreHeard =
    (journal : Entries) (user : Participant) (waiting : Bool) (e : PlainEntry) → IsSoFar journal user waiting → is_full journal ≡ false → IsActEntryOf user e → is_held (kind_of e.answer) ≡ false → Asks user e.act
    → IsSoFar (e ∷ journal) (user_with_answer user e.answer) false

-- and one that is held
abbrev pub HeldUsersWait : Type 0
HeldUsersWait =
    (journal : Entries) (user : Participant) (waiting : Bool) (e : PlainEntry) → IsSoFar journal user waiting → is_full journal ≡ false → IsActEntryOf user e → is_held (kind_of e.answer) ≡ true → Asks user e.act
    → IsSoFar (e ∷ journal) user true

-- an act that is answered full
abbrev pub FullIsHeard : Type 0
FullIsHeard = (journal : Entries) (user : Participant) (waiting : Bool) (act : Act) → IsSoFar journal user waiting → IsTrue (is_full journal) → Asks user act → IsSoFar journal (user_with_answer user full) false

-- a user that leaves at the end of its lines has its part, with the exchanges whose replies it took
abbrev pub LeaversHaveTheirParts : Type 0
LeaversHaveTheirParts =
    (journal : Entries) (user : Participant) (waiting : Bool) (exchanges : List Exchange) (e : PlainEntry) → IsSoFar journal user waiting → e.party ≡ user.number → is_leave e.act ≡ true → (session_of user.lines user.answers user.replies).waits ≡ None
    → user.replies ≡ shelf_replies_in exchanges → (session_of user.lines user.answers user.replies).exchanges ≡ exchanges
    → IsUserPart (e ∷ journal) (record { number = user.number; lines = user.lines }) exchanges (session_of user.lines user.answers user.replies).terminal.transcript
