-- A user's part of a run: its lines evaluated alone, with the answers that the journal gives it and the replies of its shelf.
use Rattle.std.specs.Prelude.{◌≡◌, ◌≢◌, ◌&&◌, ◌++◌, ◌==◌, ℕ, Bool, List, [], ◌∷◌, None, Some, IfSome, IsTrue, filter, map, not, reverse, slice_get, if◌then◌else◌}
use Rattle.sv_events.specs.Answer.{PlainAnswer, full}
use Rattle.sv_events.specs.Entry.{PlainEntry}
use Rattle.sv_events.specs.declared.event.Act.{Act}
use Rattle.sv_rules.specs.Entries.{Entries, has_left, is_full, is_held, is_leave, kind_of}
use Rattle.sv_rules.specs.Refused.{awaited}
use Rattle.bundle_text.specs.User.{PlainUser}
use Rattle.session_rules.specs.Session.{session_of}
use Rattle.session_rules.specs.Shelf.{Exchange, shelf_replies_in}

-- the entry is a party's, and answers an act of its lines: it is no leave, and the party does not wait behind it
abbrev pub answers_line : ℕ → PlainEntry → Bool
answers_line party e = e.party == party && not (is_leave e.act) && not (is_held (kind_of e.answer))

-- the entries that answer the acts of a party's lines, the newest first
abbrev pub answered_entries : Entries → ℕ → Entries
answered_entries journal party = filter (answers_line party) journal

-- the acts of entries, the oldest first
abbrev pub acts_of : Entries → List Act
acts_of entries = reverse (map (λ e. e.act) entries)

-- the answers of entries, the oldest first
abbrev pub answers_of : Entries → List PlainAnswer
answers_of entries = reverse (map (λ e. e.answer) entries)

-- the journal before a party left
abbrev pub before_leave : Entries → ℕ → Entries
before_leave [] party = []
before_leave (e ∷ journal) party = if e.party == party && is_leave e.act then journal else before_leave journal party

-- a user's lines, given the answers of these entries and then full for some acts, and the replies of these exchanges, ask the acts of the entries and then those acts, wait for none, make the calls of the exchanges, and print this transcript
pub record IsFinished (lines : List (List ℕ)) (entries : Entries) (refused : List Act) (exchanges : List Exchange) (transcript : List (List ℕ)) : Type 0 where
  pub acts : (session_of lines (answers_of entries ++ map (λ act. full) refused) (shelf_replies_in exchanges)).acts ≡ acts_of entries ++ refused
  pub waits : (session_of lines (answers_of entries ++ map (λ act. full) refused) (shelf_replies_in exchanges)).waits ≡ None
  pub calls : (session_of lines (answers_of entries ++ map (λ act. full) refused) (shelf_replies_in exchanges)).exchanges ≡ exchanges
  pub printed : (session_of lines (answers_of entries ++ map (λ act. full) refused) (shelf_replies_in exchanges)).terminal.transcript ≡ transcript

-- a user's part. It has left. Its lines are finished by the answers of its entries, and by full for further acts, with these exchanges with its shelf. There are such acts only where the journal was full before the user left; and where the user waited when it left, the act that it waited for is the first of them
pub record IsUserPart (journal : Entries) (user : PlainUser) (exchanges : List Exchange) (transcript : List (List ℕ)) : Type 0 where
  pub left : IsTrue (has_left journal user.number)
  pub refused : List Act
  pub finished : IsFinished user.lines (answered_entries journal user.number) refused exchanges transcript
  pub at_limit : refused ≢ [] → IsTrue (is_full (before_leave journal user.number))
  pub waited : IfSome (awaited (before_leave journal user.number) user.number) (λ act. slice_get refused 0 ≡ Some act)
