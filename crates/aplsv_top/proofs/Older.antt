-- What turns add to a journal and to users: an entry of the party at most, and answers.
use Rattle.std.proofs.Common.{◌≡◌, ◌≢◌, ℕ, Bool, true, false, List, [], ◌∷◌, ◌++◌, Option, Some, None, refl, sym, ap, ap₂, ◌∙◌, append-nil, append_assoc}
use Rattle.std.specs.Prelude.{if◌then◌else◌}
use Rattle.std.specs.Option.{option_map_or}
use Rattle.apl_arrays.specs.Array.{PlainArray}
use Rattle.sv_events.specs.Answer.{PlainAnswer}
use Rattle.sv_events.specs.Entry.{PlainEntry}
use Rattle.sv_events.specs.Work.{act_of}
use Rattle.sv_events.specs.declared.event.Act.{Act}
use Rattle.sv_events.specs.declared.event.Act.TheVariants as act
use Rattle.sv_events.specs.declared.work.Work.{Work}
use Rattle.sv_events.specs.declared.work.Work.TheVariants as work
use Rattle.sv_rules.specs.Entries.{Entries, has_left, is_full, is_held, kind_of, next_place}
use Rattle.sv_rules.specs.Legal.{answer_to, entry_for, is_still_held, journal_after, retried}
use Rattle.sv_rules.specs.Refused.{awaited, waits}
use Rattle.sv_core.specs.Core.{PlainCore}
use Rattle.sv_core.specs.Retry.{journal_retried}
use Rattle.session_rules.specs.Session.{session_of}
use Rattle.replay_rules.specs.Turns.{Participant, AfterTurn, act_made, answer_given, numbers_of, served_by, serving, turn, turn_by, turns_where}

-- ---- entries

-- entries came before others
pub record IsOlder (before after : Entries) : Type 0 where
  pub more : Entries
  pub same : after ≡ more ++ before

pub unchanged : (journal : Entries) → IsOlder journal journal
unchanged journal = record { more = []; same = refl }

append_later : (later more before : Entries) → (later ++ more) ++ before ≡ later ++ (more ++ before)
append_later [] more before = refl
append_later (e ∷ later) more before = ap (λ (journal : Entries). e ∷ journal) (append_later later more before)

pub older_still : (before between after : Entries) → IsOlder before between → IsOlder between after → IsOlder before after
older_still before between after h k = record { more = k.more ++ h.more; same = k.same ∙ (ap (λ (journal : Entries). k.more ++ journal) h.same ∙ sym (append_later k.more h.more before)) }

-- a party added nothing, or an entry
pub data Adds (party : ℕ) (before after : Entries) : Type 0 where
  nothing : after ≡ before → Adds party before after
  entry : (e : PlainEntry) → e.party ≡ party → after ≡ e ∷ before → Adds party before after

pub older_by : (party : ℕ) (before after : Entries) → Adds party before after → IsOlder before after
older_by party before after (nothing same) = record { more = []; same = same }
older_by party before after (entry e own same) = record { more = e ∷ []; same = same }

adds_if : (full : Bool) (e : PlainEntry) (journal : Entries) (party : ℕ) → e.party ≡ party → Adds party journal (if full then journal else e ∷ journal)
adds_if true e journal party own = nothing refl
adds_if false e journal party own = entry e own refl

adds_after : (journal : Entries) (party : ℕ) (made : Act) → Adds party journal (journal_after journal party made)
adds_after journal party made = adds_if (is_full journal) (entry_for journal party made) journal party refl

adds_serving : (journal : Entries) (party : ℕ) (replies : List PlainArray) (made : Option Act) → Adds party journal (serving journal party replies made).journal
adds_serving journal party replies None = nothing refl
adds_serving journal party replies (Some made) = adds_after journal party made

-- ---- the turn of an auxiliary

pub adds_served : (journal : Entries) (party : ℕ) (replies : List PlainArray) (due : Work) → Adds party journal (served_by journal party replies due).journal
adds_served journal party [] (work.Reply local) = nothing refl
adds_served journal party [] work.Idle = nothing refl
adds_served journal party [] (work.Retract local) = adds_after journal party (act.Retract local)
adds_served journal party [] (work.Control local) = adds_serving journal party [] (act_of (work.Control local) (next_place journal) None)
adds_served journal party [] (work.Counter to surrogate) = adds_serving journal party [] (act_of (work.Counter to surrogate) (next_place journal) None)
adds_served journal party [] (work.Use local) = adds_serving journal party [] (act_of (work.Use local) (next_place journal) None)
adds_served journal party (reply ∷ replies) (work.Reply local) = adds_serving journal party replies (act_of (work.Reply local) (next_place journal) (Some reply))
adds_served journal party (reply ∷ replies) work.Idle = nothing refl
adds_served journal party (reply ∷ replies) (work.Retract local) = adds_serving journal party (reply ∷ replies) (act_of (work.Retract local) (next_place journal) None)
adds_served journal party (reply ∷ replies) (work.Control local) = adds_serving journal party (reply ∷ replies) (act_of (work.Control local) (next_place journal) None)
adds_served journal party (reply ∷ replies) (work.Counter to surrogate) = adds_serving journal party (reply ∷ replies) (act_of (work.Counter to surrogate) (next_place journal) None)
adds_served journal party (reply ∷ replies) (work.Use local) = adds_serving journal party (reply ∷ replies) (act_of (work.Use local) (next_place journal) None)

-- where replies are left after a turn, some were left before
pub left_before : (journal : Entries) (party : ℕ) (replies : List PlainArray) (due : Work) → (served_by journal party replies due).replies ≢ [] → replies ≢ []
left_before journal party [] (work.Reply local) left = left
left_before journal party [] work.Idle left = left
left_before journal party [] (work.Retract local) left = left
left_before journal party [] (work.Control local) left = left
left_before journal party [] (work.Counter to surrogate) left = left
left_before journal party [] (work.Use local) left = left
left_before journal party (reply ∷ replies) due left = λ e. cc e

-- ---- the turns of users

adds_retried : (held : Bool) (next : Option Act) (numbers : List ℕ) (journal : Entries) (party : ℕ)
    → Adds party journal (let core : PlainCore = (if held then record { users = numbers; journal = journal } else record { users = numbers; journal = journal_retried journal party next }) in core.journal)
adds_retried true next numbers journal party = nothing refl
adds_retried false None numbers journal party = nothing refl
adds_retried false (Some made) numbers journal party = adds_after journal party made

adds_made : (again : Bool) (numbers : List ℕ) (journal : Entries) (user : Participant) (made : Act) → Adds user.number journal (act_made again numbers journal user made).journal
adds_made true numbers journal user made = adds_retried (is_still_held numbers journal user.number) (awaited journal user.number) numbers journal user.number
adds_made false numbers journal user made = adds_after journal user.number made

adds_by : (left : Bool) (next : Option Act) (numbers : List ℕ) (journal : Entries) (user : Participant) → Adds user.number journal (turn_by left next numbers journal user).journal
adds_by true next numbers journal user = nothing refl
adds_by false None numbers journal user = entry (entry_for journal user.number act.Leave) refl refl
adds_by false (Some made) numbers journal user = adds_made (waits journal user.number) numbers journal user made

-- the turn of a user, if it takes one
abbrev pub turn_if : Bool → List ℕ → Entries → Participant → AfterTurn
turn_if takes numbers journal user = if takes then turn numbers journal user else record { journal = journal; user = user }

pub adds_turn : (takes : Bool) (numbers : List ℕ) (journal : Entries) (user : Participant) → Adds user.number journal (turn_if takes numbers journal user).journal
adds_turn true numbers journal user = adds_by (has_left journal user.number) (session_of user.lines user.answers user.replies).waits numbers journal user
adds_turn false numbers journal user = nothing refl

pub older_turns : (test : Participant → Bool) (numbers : List ℕ) (journal : Entries) (users : List Participant) → IsOlder journal (turns_where test numbers journal users).journal
older_turns test numbers journal [] = unchanged journal
older_turns test numbers journal (user ∷ users) =
    let first : AfterTurn = turn_if (test user) numbers journal user in
    older_still journal first.journal (turns_where test numbers first.journal users).journal (older_by user.number journal first.journal (adds_turn (test user) numbers journal user)) (older_turns test numbers first.journal users)

-- ---- answers

-- a user with answers more
abbrev pub answered_too : List PlainAnswer → Participant → Participant
answered_too more user = record user { answers = user.answers ++ more }

-- a user was given some answers, and is else the same
pub record IsLater (user now : Participant) : Type 0 where
  pub more : List PlainAnswer
  pub same : now ≡ answered_too more user

as_it_was : (user : Participant) → user ≡ answered_too [] user
as_it_was user = ap (λ (answers : List PlainAnswer). record user { answers = answers }) (sym (append-nil user.answers))

pub not_later : (user : Participant) → IsLater user user
not_later user = record { more = []; same = as_it_was user }

pub later_still : (user between now : Participant) → IsLater user between → IsLater between now → IsLater user now
later_still user between now h k = record {
  more = h.more ++ k.more;
  same = k.same ∙ (ap (answered_too k.more) h.same ∙ ap (λ (answers : List PlainAnswer). record user { answers = answers }) (append_assoc user.answers h.more k.more));
}

later_given : (held : Bool) (answer : PlainAnswer) (user : Participant) → IsLater user (if held then user else record user { answers = user.answers ++ answer ∷ [] })
later_given true answer user = not_later user
later_given false answer user = record { more = answer ∷ []; same = refl }

later_heard : (answer : Option PlainAnswer) (user : Participant) → IsLater user (option_map_or (λ (given' : PlainAnswer). answer_given given' user) answer user)
later_heard None user = not_later user
later_heard (Some answer) user = later_given (is_held (kind_of answer)) answer user

later_made : (again : Bool) (numbers : List ℕ) (journal : Entries) (user : Participant) (made : Act) → IsLater user (act_made again numbers journal user made).user
later_made true numbers journal user made = later_heard (retried numbers journal user.number) user
later_made false numbers journal user made = later_heard (Some (answer_to journal user.number made)) user

later_by : (left : Bool) (next : Option Act) (numbers : List ℕ) (journal : Entries) (user : Participant) → IsLater user (turn_by left next numbers journal user).user
later_by true next numbers journal user = not_later user
later_by false None numbers journal user = not_later user
later_by false (Some made) numbers journal user = later_made (waits journal user.number) numbers journal user made

pub later_turn : (takes : Bool) (numbers : List ℕ) (journal : Entries) (user : Participant) → IsLater user (turn_if takes numbers journal user).user
later_turn true numbers journal user = later_by (has_left journal user.number) (session_of user.lines user.answers user.replies).waits numbers journal user
later_turn false numbers journal user = not_later user

-- so it is with users
abbrev pub AreLater : List Participant → List Participant → Type 0
AreLater [] [] = Unit {0}
AreLater [] (now ∷ nows) = ⊥
AreLater (user ∷ users) [] = ⊥
AreLater (user ∷ users) (now ∷ nows) = IsLater user now × AreLater users nows

pub none_later : (users : List Participant) → AreLater users users
none_later [] = tt
none_later (user ∷ users) = (not_later user, none_later users)

pub all_later_still : (users between nows : List Participant) → AreLater users between → AreLater between nows → AreLater users nows
all_later_still [] [] [] h k = tt
all_later_still [] [] (now ∷ nows) h k = absurd k
all_later_still [] (mid ∷ between) nows h k = absurd h
all_later_still (user ∷ users) [] nows h k = absurd h
all_later_still (user ∷ users) (mid ∷ between) [] h k = absurd k
all_later_still (user ∷ users) (mid ∷ between) (now ∷ nows) h k = (later_still user mid now h.0 k.0, all_later_still users between nows h.1 k.1)

pub later_turns : (test : Participant → Bool) (numbers : List ℕ) (journal : Entries) (users : List Participant) → AreLater users (turns_where test numbers journal users).users
later_turns test numbers journal [] = tt
later_turns test numbers journal (user ∷ users) = (later_turn (test user) numbers journal user, later_turns test numbers (turn_if (test user) numbers journal user).journal users)

-- users keep their numbers
pub same_numbers : (users nows : List Participant) → AreLater users nows → numbers_of nows ≡ numbers_of users
same_numbers [] [] h = refl
same_numbers [] (now ∷ nows) h = absurd h
same_numbers (user ∷ users) [] h = absurd h
same_numbers (user ∷ users) (now ∷ nows) h = ap₂ (λ (n : ℕ) (ns : List ℕ). n ∷ ns) (ap (λ (u : Participant). u.number) h.0.same) (same_numbers users nows h.1)
