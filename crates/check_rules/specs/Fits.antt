-- Which entry may stand behind others in a run of a bundle over its own files, its own readings and empty shelves.
use Rattle.std.specs.Prelude.{◌≡◌, ◌++◌, ◌+◌, ℕ, Bool, true, false, List, [], ◌∷◌, Some, All, IsTrue, length, reverse}
use Rattle.apl_arrays.specs.Array.{PlainArray}
use Rattle.apl_io.specs.Kept.{Keeper, Timer}
use Rattle.aux_parties.specs.Auxiliaries.{party_of}
use Rattle.aux_parties.specs.declared.auxiliary.AuxiliaryKind.{AuxiliaryKind}
use Rattle.auxiliaries.specs.Clock.{RepliesByReading}
use Rattle.auxiliaries.specs.Protocol.{idle}
use Rattle.auxiliaries.specs.Run.{IsReplierRun}
use Rattle.auxiliaries.specs.Served.{Replies, Served, forgotten}
use Rattle.bundle_devices.specs.Devices.{clock_of, text_store_of}
use Rattle.bundle_text.specs.Rules.{PlainBundle}
use Rattle.bundle_text.specs.User.{PlainUser}
use Rattle.sv_events.specs.Entry.{PlainEntry}
use Rattle.sv_events.specs.declared.event.Act.{Act}
use Rattle.sv_rules.specs.Entries.{Entries, is_leave}
use Rattle.sv_rules.specs.Legal.{MayFollow}
use Rattle.session_rules.specs.Auxiliaries.{events_of, some_stay}
use Rattle.session_rules.specs.Behind.{Behind, forgets_of, of_each, replies_of}
use Rattle.session_rules.specs.Run.{user_numbers}
use Rattle.check_rules.specs.Alone.{AsksNext, HasFinished}

-- where an auxiliary of a bundle begins: at its readings, or between its files
abbrev pub begins : PlainBundle → (kind : AuxiliaryKind) → Behind Timer (Served (Keeper (List ℕ))) kind
begins bundle kind = of_each (clock_of bundle) (record { store = text_store_of bundle; state = idle }) kind

-- what it does where it begins with a party
abbrev pub forgets : (kind : AuxiliaryKind) → Behind Timer (Served (Keeper (List ℕ))) kind → ℕ → Behind Timer (Served (Keeper (List ℕ))) kind → Type 0
forgets kind = forgets_of (λ old party new. new ≡ old) (λ old party new. new ≡ forgotten old) kind

-- and where it replies to a party's value
abbrev pub replies : (kind : AuxiliaryKind) → Behind Timer (Served (Keeper (List ℕ))) kind → ℕ → PlainArray → PlainArray → Behind Timer (Served (Keeper (List ℕ))) kind → Type 0
replies kind =
    replies_of (λ old party value answer new. RepliesByReading (λ c. Some c.told) (λ c. c.faults) old value answer new) (λ old party value answer new. Replies (λ t. Some t.told) (λ t. t.faults) old value answer new) kind

-- the sets of an auxiliary in a journal are its replies: what answers behind it came from where it begins to somewhere
pub record HasReplied (bundle : PlainBundle) (kind : AuxiliaryKind) (journal : Entries) : Type 0 where
  pub now : Behind Timer (Served (Keeper (List ℕ))) kind
  pub run : IsReplierRun (forgets kind) (replies kind) (begins bundle kind) (events_of journal (party_of kind)) now

-- what a user does next: it leaves where its session is over, and else makes the act that its session asks
abbrev pub IsNextOf : Bool → Entries → PlainUser → Act → Type 0
IsNextOf true journal user act = HasFinished journal user
IsNextOf false journal user act = AsksNext journal user act

-- an entry fits behind a journal: it is legal there, and some user has not left; a user's is what the user does next, and an auxiliary's set is its reply
pub record EntryFits (bundle : PlainBundle) (journal : Entries) (e : PlainEntry) : Type 0 where
  pub legal : MayFollow (user_numbers bundle) journal e
  pub among : IsTrue (some_stay (user_numbers bundle) journal)
  pub next : All (λ user. user.number ≡ e.party → IsNextOf (is_leave e.act) journal user e.act) bundle.users
  pub replied : (kind : AuxiliaryKind) → party_of kind ≡ e.party → HasReplied bundle kind (e ∷ journal)

-- each entry fits behind those before it
abbrev pub EntriesFit : PlainBundle → Entries → Type 0
EntriesFit bundle [] = Unit {0}
EntriesFit bundle (e ∷ journal) = EntryFits bundle journal e × EntriesFit bundle journal

-- of these entries, the oldest first, the one at this place, from 1, is the first that does not fit
pub record IsFirstUnfit (bundle : PlainBundle) (entries : List PlainEntry) (place : ℕ) : Type 0 where
  pub before : List PlainEntry
  pub entry : PlainEntry
  pub behind : List PlainEntry
  pub here : entries ≡ before ++ entry ∷ behind
  pub counted : place ≡ length before + 1
  pub fit : EntriesFit bundle (reverse before)
  pub unfit : EntryFits bundle (reverse before) entry → ⊥
