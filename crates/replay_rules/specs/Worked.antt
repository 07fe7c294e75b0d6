-- Worked replays.
use Rattle.std.specs.Prelude.{◌≡◌, ℕ, List, [], ◌∷◌, codes}
use Rattle.apl_arrays.specs.Array.{PlainArray}
use Rattle.apl_meaning.specs.Worked.{texts}
use Rattle.bundle_text.specs.Rules.{PlainBundle}
use Rattle.bundle_text.specs.User.{PlainUser}
use Rattle.sv_events.specs.Answer.{PlainAnswer}
use Rattle.sv_rules.specs.Entries.{Entries}
use Rattle.session_rules.specs.Run.{Dealings}
use Rattle.replay_rules.specs.TurnLaws.{replayed}
use Rattle.replay_rules.specs.Turns.{Participant, Replay, with_left}

-- a user with these lines
abbrev pub user : ℕ → List (List ℕ) → PlainUser
user number lines = record { number = number; lines = texts lines }

-- a bundle of these users, with these turns first
abbrev pub worked_bundle : List PlainUser → List ℕ → PlainBundle
worked_bundle users order = record { users = users; order = order; files = []; clock = [] }

-- no shelf is asked
abbrev pub no_dealings : Dealings
no_dealings user = []

-- no auxiliary gives a reply
abbrev pub no_replies : ℕ → List PlainArray
no_replies party = []

-- one auxiliary gives these replies, and the others none
abbrev pub gives : ℕ → List PlainArray → ℕ → List PlainArray
gives party replies = with_left party replies no_replies

-- the journal after so many rounds, where the auxiliaries give these replies
abbrev pub worked_journal : PlainBundle → (ℕ → List PlainArray) → ℕ → Entries
worked_journal bundle replies count = (replayed bundle no_dealings replies count).journal

-- a user of the clock, which sets a value and uses the answer
abbrev pub clock_bundle : PlainBundle
clock_bundle = worked_bundle (user 1001 (codes "10 ⎕SVO 'C'" ∷ codes "C←0" ∷ codes "C" ∷ []) ∷ []) []

-- a user of the text files, which controls the name, asks for a file and uses the answer
abbrev pub text_bundle : PlainBundle
text_bundle = worked_bundle (user 1001 (codes "20 ⎕SVO 'T'" ∷ codes "1 1 1 1 ⎕SVC 'T'" ∷ codes "T←'READ GONE'" ∷ codes "T" ∷ []) ∷ []) []

-- one that controls the name, and uses an answer for which it never asked
abbrev pub stuck_bundle : PlainBundle
stuck_bundle = worked_bundle (user 1001 (codes "20 ⎕SVO 'T'" ∷ codes "1 1 1 1 ⎕SVC 'T'" ∷ codes "T" ∷ []) ∷ []) []

-- a user that offers a name, whose line was given these answers
abbrev pub offering_user : List PlainAnswer → Participant
offering_user answers = record { number = 1001; lines = texts (codes "1002 ⎕SVO 'X'" ∷ []); replies = []; answers = answers }

-- a replay of one user that has come to this journal
abbrev pub alone_at : Entries → (ℕ → List PlainArray) → Participant → Replay
alone_at journal replies user = record { journal = journal; replies = replies; users = user ∷ [] }

-- a replay of one user has this journal now, and the user is this one
pub record HasComeTo (replay : Replay) (journal : Entries) (user : Participant) : Type 0 where
  pub entries : replay.journal ≡ journal
  pub users : replay.users ≡ user ∷ []
