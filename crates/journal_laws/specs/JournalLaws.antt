-- What a journal says to those who read it. Journals stand here with their newest entry first.
use Rattle.std.specs.Prelude.{◌≡◌, ◌≢◌, ◌⊎◌, ◌↔◌, ◌++◌, ℕ, List, [], ◌∷◌, IfSome, IsTrue, None, Option, Some, length, map, slice_get}
use Rattle.apl_arrays.specs.Array.{PlainArray}
use Rattle.bundle_text.specs.User.{PlainUser}
use Rattle.sv_access.specs.declared.access.Kind.{Kind}
use Rattle.sv_access.specs.declared.access.Kind.TheVariants as kind
use Rattle.sv_events.specs.Answer.{PlainAnswer, abandoned, full, held}
use Rattle.sv_events.specs.Entry.{PlainEntry}
use Rattle.sv_events.specs.declared.event.Act.{Act}
use Rattle.sv_events.specs.declared.event.Hold.{Hold}
use Rattle.sv_journal.specs.Output.{PlainTranscript}
use Rattle.sv_rules.specs.Entries.{Entries, is_full, is_leave}
use Rattle.sv_rules.specs.Outcome.{value_answer}
use Rattle.sv_rules.specs.Refused.{awaited, hold_on}
use Rattle.sv_rules.specs.declared.standing.Standing.{Standing}
use Rattle.sv_story_laws.specs.AnswerLaws.{Grants, IsAccessOf, IsThere}
use Rattle.session_rules.specs.Run.{Dealings}
use Rattle.session_rules.specs.Session.{session_of}
use Rattle.session_rules.specs.Shelf.{Exchange, shelf_replies_in}
use Rattle.session_rules.specs.UserPart.{acts_of, answered_entries, answers_of, before_leave}

-- the journal has this entry, and these before it
pub record IsMade (journal : Entries) (e : PlainEntry) (before : Entries) : Type 0 where
  pub later : Entries
  pub split : journal ≡ later ++ e ∷ before

-- what the access table refuses of an access to an offer, over the entries before it: the element, and its owners
abbrev pub refused_over : Entries → Kind → Standing → Option Hold
refused_over before kind offer = hold_on before kind (Some offer)

-- the access is refused, at once or once its wait is given up, by this element and these owners
abbrev pub IsRefusedBy : PlainAnswer → Hold → Type 0
IsRefusedBy given hold = (given ≡ held hold) ⊎ (given ≡ abandoned hold)

-- an access is granted exactly where the table refuses nothing, and else refused by what the table names
pub record FollowsTheTable (before : Entries) (e : PlainEntry) (kind : Kind) (offer : Standing) : Type 0 where
  pub granted : Grants kind e.answer ↔ (refused_over before kind offer ≡ None)
  pub refused : (hold : Hold) → IsRefusedBy e.answer hold ↔ (refused_over before kind offer ≡ Some hold)

-- each set and each use of an offered name does
abbrev pub AccessesFollowTheTable : Entries → Type 0
AccessesFollowTheTable journal =
    (e : PlainEntry) (before : Entries) → IsMade journal e before → (kind : Kind) (offer : Standing) → IsAccessOf before e kind offer → FollowsTheTable before e kind offer

-- a use gives what is there: the last value set, or what its party knows, or none
pub record GivesWhatIsThere (before : Entries) (e : PlainEntry) (offer : Standing) : Type 0 where
  pub found : Option PlainArray
  pub there : IsThere before offer found
  pub given : e.answer ≡ value_answer found

-- each use of an offered name does, where the table refuses nothing
abbrev pub UsesGiveTheLastValue : Entries → Type 0
UsesGiveTheLastValue journal =
    (e : PlainEntry) (before : Entries) → IsMade journal e before → (offer : Standing) → IsAccessOf before e kind.Use offer → refused_over before kind.Use offer ≡ None → GivesWhatIsThere before e offer

-- the answers that the journal gives a user: those of its entries, but of holds and of its leave
abbrev pub answers_given : Entries → ℕ → List PlainAnswer
answers_given journal user = answers_of (answered_entries journal user)

-- the acts that have these answers
abbrev pub acts_answered : Entries → ℕ → List Act
acts_answered journal user = acts_of (answered_entries journal user)

-- a transcript is its user's: that of its lines alone, with the replies of these exchanges with its shelf, which asked the acts that the journal answers, and then, only where the journal was full, acts that are answered Full, of which the first is that which the user waited for, if it waited
pub record IsEvaluatedAlone (journal : Entries) (user : PlainUser) (exchanges : List Exchange) (transcript : PlainTranscript) : Type 0 where
  pub whose : transcript.user ≡ user.number
  pub past : List Act
  pub printed : (session_of user.lines (answers_given journal user.number ++ map (λ act. full) past) (shelf_replies_in exchanges)).terminal.transcript ≡ transcript.lines
  pub asked : (session_of user.lines (answers_given journal user.number ++ map (λ act. full) past) (shelf_replies_in exchanges)).acts ≡ acts_answered journal user.number ++ past
  pub called : (session_of user.lines (answers_given journal user.number ++ map (λ act. full) past) (shelf_replies_in exchanges)).exchanges ≡ exchanges
  pub finished : (session_of user.lines (answers_given journal user.number ++ map (λ act. full) past) (shelf_replies_in exchanges)).waits ≡ None
  pub limit : past ≢ [] → IsTrue (is_full (before_leave journal user.number))
  pub waited : IfSome (awaited (before_leave journal user.number) user.number) (λ act. slice_get past 0 ≡ Some act)

-- there is one for each user, in their order, with these dealings with their shelves
pub record TranscriptsAreEvaluatedAlone (dealings : Dealings) (users : List PlainUser) (journal : Entries) (transcripts : List PlainTranscript) : Type 0 where
  pub each : (place : ℕ) (user : PlainUser) (transcript : PlainTranscript) → slice_get users place ≡ Some user → slice_get transcripts place ≡ Some transcript → IsEvaluatedAlone journal user (dealings user.number) transcript
  pub many : length transcripts ≡ length users

-- an entry that is made behind a full journal is a leave, and none has the answer Full
pub record TakesLeavesAlone (before : Entries) (e : PlainEntry) : Type 0 where
  pub leave : IsTrue (is_full before) → IsTrue (is_leave e.act)
  pub entered : e.answer ≢ full

-- a full journal takes leaves alone
abbrev pub FullJournalsTakeLeavesAlone : Entries → Type 0
FullJournalsTakeLeavesAlone journal = (e : PlainEntry) (before : Entries) → IsMade journal e before → TakesLeavesAlone before e
