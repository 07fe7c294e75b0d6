-- A user between two turns: what it did so far.
use Rattle.std.specs.Prelude.{◌≡◌, ◌≢◌, ◌++◌, Bool, true, List, [], ◌∷◌, Some, IfSome, IsTrue, map}
use Rattle.sv_events.specs.Answer.{full}
use Rattle.sv_events.specs.declared.event.Act.{Act}
use Rattle.sv_rules.specs.Entries.{Entries, is_full}
use Rattle.sv_rules.specs.Refused.{awaited, waits}
use Rattle.session_rules.specs.Session.{session_of}
use Rattle.session_rules.specs.UserPart.{acts_of, answered_entries, answers_of}
use Rattle.replay_rules.specs.Turns.{Participant}

-- the act that a user waits for is the one that its session asks; once the journal is full it was the first that was refused
abbrev pub IsWaitedFor : Participant → Bool → List Act → Act → Type 0
IsWaitedFor user waiting [] act = (waiting ≡ true) × ((session_of user.lines user.answers user.replies).waits ≡ Some act)
IsWaitedFor user waiting (first ∷ refused) act = first ≡ act

-- a user that has not left, and whose session waits for an answer or not: its lines were given the answers of its entries, and then full for further acts, of which there are some only where the journal is full; they asked the acts of these entries, and then those; and the session waits only where the user does
pub record IsSoFar (journal : Entries) (user : Participant) (waiting : Bool) : Type 0 where
  pub refused : List Act
  pub answers : user.answers ≡ answers_of (answered_entries journal user.number) ++ map (λ act. full) refused
  pub acts : (session_of user.lines user.answers user.replies).acts ≡ acts_of (answered_entries journal user.number) ++ refused
  pub at_limit : refused ≢ [] → IsTrue (is_full journal)
  pub waited : IfSome (awaited journal user.number) (IsWaitedFor user waiting refused)
  pub going : waiting ≡ true → (refused ≡ []) × IsTrue (waits journal user.number)
