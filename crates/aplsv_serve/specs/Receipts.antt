-- What each user's session was asked and answered in a run.
use Rattle.std.specs.Prelude.{◌≡◌, ◌++◌, ℕ, List, [], ◌∷◌, Option, None, filter, map, not, reverse}
use Rattle.apl_io.specs.Content.{Told}
use Rattle.apl_session.specs.PlainSession.{HasCome, PlainSession}
use Rattle.apl_session.specs.Receipts.{PlainReceipt, acts_in, answers_in}
use Rattle.bundle_text.specs.User.{PlainUser}
use Rattle.sv_events.specs.Answer.{full}
use Rattle.sv_events.specs.declared.event.Act.{Act}
use Rattle.sv_journal.specs.Output.{PlainTranscript}
use Rattle.sv_rules.specs.Entries.{Entries}
use Rattle.session_rules.specs.Run.{Dealings}
use Rattle.session_rules.specs.Session.{session_of}
use Rattle.session_rules.specs.SessionLaws.{tells_full}
use Rattle.session_rules.specs.Shelf.{Exchange, shelf_replies_in}
use Rattle.session_rules.specs.UserPart.{acts_of, answered_entries, answers_of}
use Rattle.party_turns.specs.SoFar.{user_of}

-- the receipts of entries, the oldest first
abbrev pub receipts_of : Entries → List PlainReceipt
receipts_of entries = reverse (map (λ e. record { act = e.act; answer = e.answer }) entries)

-- those of receipts that do not tell that the journal is full
abbrev pub entered : List PlainReceipt → List PlainReceipt
entered receipts = filter (λ receipt. not (tells_full receipt.answer)) receipts

-- a session that is done, with these exchanges with its shelf: what it asked and was answered are the acts and answers of its user's entries other than held ones and leaves, each once and in their order, and behind them acts to which the journal was full
pub record HasTold {K : Type 0} (journal : Entries) (exchanges : List Exchange) (s : PlainSession K) : Type 0 where
  pub refused : List Act
  pub acts : s.acts ≡ acts_of (answered_entries journal s.user) ++ refused
  pub answers : s.answers ≡ answers_of (answered_entries journal s.user) ++ map (λ act. full) refused
  pub waits : (session_of s.lines s.answers (shelf_replies_in exchanges)).waits ≡ None

module _ {K : Type 0} (told : K → Option (Told (ℕ × List ℕ))) (faults : K → ℕ) where
  -- a user's session as a run left it: it came to the end of the user's lines with these exchanges, waits for no answer, and printed this transcript; and of the receipts that it tells those which do not tell that the journal is full are the user's entries other than held ones and leaves, each once and in their order
  pub record HasReceipts (journal : Entries) (user : PlainUser) (exchanges : List Exchange) (transcript : List (List ℕ)) : Type 0 where
    pub session : PlainSession K
    pub own : user_of session ≡ user
    pub lent : K
    pub come : HasCome told faults lent exchanges session
    pub waits : (session_of user.lines session.answers (shelf_replies_in exchanges)).waits ≡ None
    pub printed : (session_of user.lines session.answers (shelf_replies_in exchanges)).terminal.transcript ≡ transcript
    pub receipts : List PlainReceipt
    pub acts : acts_in receipts ≡ session.acts
    pub answers : answers_in receipts ≡ session.answers
    pub entered : entered receipts ≡ receipts_of (answered_entries journal user.number)

  -- each user's session has them
  abbrev pub HaveReceipts : Dealings → Entries → List PlainUser → List PlainTranscript → Type 0
  HaveReceipts dealings journal [] [] = Unit {0}
  HaveReceipts dealings journal [] (transcript ∷ transcripts) = ⊥
  HaveReceipts dealings journal (user ∷ users) [] = ⊥
  HaveReceipts dealings journal (user ∷ users) (transcript ∷ transcripts) =
      HasReceipts journal user (dealings user.number) transcript.lines × HaveReceipts dealings journal users transcripts
