-- The turns of a replay: those of the order, and then rounds over the auxiliaries, 10 and 20, and the users, ascending, until all users have left.
use Rattle.std.specs.Prelude.{◌≡◌, ◌≢◌, ◌++◌, ◌==◌, ℕ, zero, suc, Bool, true, false, List, [], ◌∷◌, map, Option, Some, None, All, IsTrue, if◌then◌else◌}
use Rattle.std.specs.Option.{option_map_or}
use Rattle.apl_arrays.specs.Array.{PlainArray}
use Rattle.sv_events.specs.Answer.{PlainAnswer}
use Rattle.sv_events.specs.Work.{act_of}
use Rattle.sv_events.specs.declared.event.Act.{Act}
use Rattle.sv_events.specs.declared.event.Act.TheVariants.{Leave}
use Rattle.sv_events.specs.declared.work.Work.{Work}
use Rattle.sv_events.specs.declared.work.Work.TheVariants as work
use Rattle.aux_parties.specs.Auxiliaries.{auxiliaries, is_auxiliary, party_of}
use Rattle.sv_rules.specs.Entries.{Entries, has_left, is_held, kind_of, next_place}
use Rattle.sv_rules.specs.Legal.{answer_to, entry_for, journal_after, retried}
use Rattle.sv_rules.specs.Refused.{waits}
use Rattle.sv_rules.specs.Work.{work_of}
use Rattle.aux_parties.specs.declared.auxiliary.AuxiliaryKind.{AuxiliaryKind}
use Rattle.aux_parties.specs.declared.auxiliary.AuxiliaryRow.{AuxiliaryRow}
use Rattle.sv_core.specs.Retry.{core_retried}
use Rattle.bundle_text.specs.Rules.{PlainBundle}
use Rattle.bundle_text.specs.User.{PlainUser}
use Rattle.session_rules.specs.Auxiliaries.{some_stay}
use Rattle.session_rules.specs.Run.{Dealings}
use Rattle.session_rules.specs.Session.{session_of}
use Rattle.session_rules.specs.Shelf.{ShelfReply, shelf_replies_in}

-- a user in a replay: its number, its lines, all replies that its shelf will give, and the answers that the lines were given
pub record Participant : Type 0 where
  pub number : ℕ
  pub lines : List (List ℕ)
  pub replies : List ShelfReply
  pub answers : List PlainAnswer

-- a replay between two turns: the journal, the replies that each auxiliary has still to give, and the users
pub record Replay : Type 0 where
  pub journal : Entries
  pub replies : ℕ → List PlainArray
  pub users : List Participant

-- ---- the turn of an auxiliary

-- the journal after an auxiliary's turn, and the replies that are left
pub record AfterAuxiliaryTurn : Type 0 where
  pub journal : Entries
  pub replies : List PlainArray

-- an auxiliary makes the act of its work, if there is one
abbrev pub serving : Entries → ℕ → List PlainArray → Option Act → AfterAuxiliaryTurn
serving journal party replies None = record { journal = journal; replies = replies }
serving journal party replies (Some act) = record { journal = journal_after journal party act; replies = replies }

-- an auxiliary does some work: a reply is the next one that it has to give
abbrev pub served_by : Entries → ℕ → List PlainArray → Work → AfterAuxiliaryTurn
served_by journal party [] (work.Reply local) = record { journal = journal; replies = [] }
served_by journal party (reply ∷ replies) (work.Reply local) = serving journal party replies (act_of (work.Reply local) (next_place journal) (Some reply))
served_by journal party replies due = serving journal party replies (act_of due (next_place journal) None)

-- the turn of an auxiliary
abbrev pub served : Entries → ℕ → List PlainArray → AfterAuxiliaryTurn
served journal party replies = served_by journal party replies (work_of journal party)

-- the replies that are left, where a party has these left and others what they had
abbrev pub with_left : ℕ → List PlainArray → (ℕ → List PlainArray) → ℕ → List PlainArray
with_left party left replies other = if other == party then left else replies other

-- the turn of an auxiliary in a replay
abbrev pub auxiliary_turn : ℕ → Replay → Replay
auxiliary_turn party replay =
    let after = served replay.journal party (replay.replies party) in record replay { journal = after.journal; replies = with_left party after.replies replay.replies }

-- a turn for each of these auxiliaries, in their order
abbrev pub auxiliary_turns : List AuxiliaryRow → Replay → Replay
auxiliary_turns [] replay = replay
auxiliary_turns (row ∷ rows) replay = auxiliary_turns rows (auxiliary_turn row.party replay)

-- ---- the turn of a user

-- the journal after a user's turn, and the user
pub record AfterTurn : Type 0 where
  pub journal : Entries
  pub user : Participant

-- a user is given an answer; while it is to wait, it is given none
abbrev pub answer_given : PlainAnswer → Participant → Participant
answer_given answer user = if is_held (kind_of answer) then user else record user { answers = user.answers ++ answer ∷ [] }

-- a user makes its act, or tries again the one that it waits for
abbrev pub act_made : Bool → List ℕ → Entries → Participant → Act → AfterTurn
act_made true numbers journal user act = record {
  journal = (core_retried (record { users = numbers; journal = journal }) user.number).journal;
  user = option_map_or (λ answer. answer_given answer user) (retried numbers journal user.number) user;
}
act_made false numbers journal user act = record { journal = journal_after journal user.number act; user = answer_given (answer_to journal user.number act) user }

-- a user that has left does nothing; one whose lines are done leaves; another goes on to its next act
abbrev pub turn_by : Bool → Option Act → List ℕ → Entries → Participant → AfterTurn
turn_by true next numbers journal user = record { journal = journal; user = user }
turn_by false None numbers journal user = record { journal = entry_for journal user.number Leave ∷ journal; user = user }
turn_by false (Some act) numbers journal user = act_made (waits journal user.number) numbers journal user act

-- the turn of a user
abbrev pub turn : List ℕ → Entries → Participant → AfterTurn
turn numbers journal user = turn_by (has_left journal user.number) (session_of user.lines user.answers user.replies).waits numbers journal user

-- the journal after the turns of users, and these
pub record AfterTurns : Type 0 where
  pub journal : Entries
  pub users : List Participant

-- a turn for each of these users for which a test holds, in their order
abbrev pub turns_where : (Participant → Bool) → List ℕ → Entries → List Participant → AfterTurns
turns_where test numbers journal [] = record { journal = journal; users = [] }
turns_where test numbers journal (user ∷ users) =
    let first = (if test user then turn numbers journal user else record { journal = journal; user = user }) in
    let others = turns_where test numbers first.journal users in
    record { journal = others.journal; users = first.user ∷ others.users }

-- the numbers of users
abbrev pub numbers_of : List Participant → List ℕ
numbers_of users = map (λ user. user.number) users

-- the turns of those users of a replay for which a test holds
abbrev pub user_turns : (Participant → Bool) → Replay → Replay
user_turns test replay =
    let after = turns_where test (numbers_of replay.users) replay.journal replay.users in record replay { journal = after.journal; users = after.users }

-- ---- the turns of the order, and rounds

-- some user of a replay has not left
abbrev pub some_user_stays : Replay → Bool
some_user_stays replay = some_stay (numbers_of replay.users) replay.journal

-- the turn of a party by its number: that of an auxiliary, or of a user
abbrev pub party_turn : ℕ → Replay → Replay
party_turn party replay = if is_auxiliary party then auxiliary_turn party replay else user_turns (λ user. user.number == party) replay

-- the turns of an order, one after another; behind the last leave nothing is done
abbrev pub ordered : List ℕ → Replay → Replay
ordered [] replay = replay
ordered (party ∷ order) replay = ordered order (if some_user_stays replay then party_turn party replay else replay)

-- a round: the auxiliaries, in the order of their table, and the users
abbrev pub round : Replay → Replay
round replay = user_turns (λ user. true) (auxiliary_turns auxiliaries replay)

-- so many rounds; behind the last leave nothing is done
abbrev pub rounds : ℕ → Replay → Replay
rounds zero replay = replay
rounds (suc count) replay = let before = rounds count replay in if some_user_stays before then round before else before

-- a user whose lines were given no answer yet
abbrev pub newcomer : Dealings → PlainUser → Participant
newcomer dealings user = record { number = user.number; lines = user.lines; replies = shelf_replies_in (dealings user.number); answers = [] }

-- before the first turn, where the shelves and the auxiliaries will give these replies
abbrev pub beginning : PlainBundle → Dealings → (ℕ → List PlainArray) → Replay
beginning bundle dealings replies = record { journal = []; replies = replies; users = map (newcomer dealings) bundle.users }

-- each auxiliary has replies left to give
abbrev pub HasReplies : Replay → Type 0
HasReplies replay = (kind : AuxiliaryKind) → replay.replies (party_of kind) ≢ []

-- the journal of a bundle's turns with these dealings: with the replies that the auxiliaries gave in it, and some that they never gave, so that no turn wanted one, it is the one after the order and so many rounds that all users have left
pub record IsJournalOfTurns (bundle : PlainBundle) (dealings : Dealings) (journal : Entries) : Type 0 where
  pub replies : ℕ → List PlainArray
  pub count : ℕ
  pub last : (rounds count (ordered bundle.order (beginning bundle dealings replies))).journal ≡ journal
  pub enough : HasReplies (rounds count (ordered bundle.order (beginning bundle dealings replies)))
  pub left : All (λ user. IsTrue (has_left journal user.number)) bundle.users
