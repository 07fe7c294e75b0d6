-- A user's session alone: over a shelf that was empty, and none of whose calls fails.
use Rattle.std.specs.Prelude.{◌≡◌, ◌≢◌, ◌++◌, ℕ, List, [], Some, None, IsTrue, map}
use Rattle.apl_io.specs.Kept.{Keeper}
use Rattle.bundle_devices.specs.Devices.{empty_shelf}
use Rattle.bundle_text.specs.User.{PlainUser}
use Rattle.sv_events.specs.Answer.{PlainAnswer, full}
use Rattle.sv_events.specs.declared.event.Act.{Act}
use Rattle.sv_rules.specs.Entries.{Entries, is_full}
use Rattle.session_rules.specs.Course.{Course}
use Rattle.session_rules.specs.Session.{session_of}
use Rattle.session_rules.specs.Shelf.{Exchange, IsShelfRun, ShelfReply}
use Rattle.session_rules.specs.UserPart.{answered_entries, answers_of}

-- an empty shelf serves a user with these exchanges
abbrev pub AreServed : ℕ → List Exchange → Type 0
AreServed user exchanges = (shelf : Keeper (ℕ × List ℕ)) × IsShelfRun {K = Keeper (ℕ × List ℕ)} (λ k. Some k.told) (λ k. k.faults) user empty_shelf exchanges shelf

-- what comes of a user's lines with these answers, where such a shelf gives the replies to the calls that they make
pub record ComesAlone (user : PlainUser) (answers : List PlainAnswer) (course : Course) : Type 0 where
  pub replies : List ShelfReply
  pub comes : course ≡ session_of user.lines answers replies
  pub served : AreServed user.number course.exchanges

-- the answers that a journal gives the acts of a party's lines, the oldest first
abbrev pub answers_given : Entries → ℕ → List PlainAnswer
answers_given journal party = answers_of (answered_entries journal party)

-- given these, a user's session asks this act next
pub record AsksNext (journal : Entries) (user : PlainUser) (act : Act) : Type 0 where
  pub course : Course
  pub alone : ComesAlone user (answers_given journal user.number) course
  pub asks : course.waits ≡ Some act

-- given these, and Full for some further acts where the journal is full, a user's session is finished
pub record HasFinished (journal : Entries) (user : PlainUser) : Type 0 where
  pub refused : List Act
  pub at_limit : refused ≢ [] → IsTrue (is_full journal)
  pub course : Course
  pub alone : ComesAlone user (answers_given journal user.number ++ map (λ act. full) refused) course
  pub over : course.waits ≡ None
