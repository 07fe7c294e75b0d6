use Rattle.std.specs.Prelude.{◌≡◌, ◌↔◌, ◌⊎◌, ℕ, List, ◌∷◌, ◌++◌, false, not, All, Contains, Some, None, IsTrue, is_some}
use Rattle.sv_events.specs.Answer.{held, abandoned}
use Rattle.sv_events.specs.Entry.{PlainEntry}
use Rattle.sv_events.specs.Row.{act_row}
use Rattle.sv_events.specs.declared.event.Act.{Act}
use Rattle.sv_events.specs.declared.event.Act.TheVariants.{Leave}
use Rattle.sv_events.specs.declared.event.Hold.{Hold}
use Rattle.sv_events.specs.declared.work.Work.TheVariants.{Idle}
use Rattle.aux_parties.specs.Auxiliaries.{is_auxiliary, party_of}
use Rattle.sv_rules.specs.Entries.{Entries, has_left}
use Rattle.sv_rules.specs.Legal.{IsLegal, is_user}
use Rattle.sv_rules.specs.Refused.{awaited, refused, waits, still_refused}
use Rattle.sv_rules.specs.Work.{is_stuck, work_of}
use Rattle.aux_parties.specs.declared.auxiliary.AuxiliaryKind.{AuxiliaryKind}

-- none of the entries is the party's
abbrev pub HasNone : ℕ → Entries → Type 0
HasNone party entries = All (λ e. ¬ (e.party ≡ party)) entries

-- a party waits for an act where its last entry has this act and is held
abbrev pub WaitsForTheLast : Type 0
WaitsForTheLast =
    (journal : Entries) (party : ℕ) (act : Act) →
    (awaited journal party ≡ Some act) ↔
    ((before : Entries) × (e : PlainEntry) × (later : Entries) × (hold : Hold) × (journal ≡ later ++ e ∷ before) × HasNone party later
    × (e.party ≡ party) × (e.act ≡ act) × (e.answer ≡ held hold))

-- in a legal journal a user that waits makes the same act again or leaves
abbrev pub WaitersActAgainOrLeave : Type 0
WaitersActAgainOrLeave =
    (users : List ℕ) (journal : Entries) (e : PlainEntry) → IsLegal users (e ∷ journal) → is_auxiliary e.party ≡ false →
    (act : Act) → awaited journal e.party ≡ Some act → (e.act ≡ Leave) ⊎ (e.act ≡ act)

-- a hold is given to those that do not wait, and a wait is given up by those that do, and only where nobody can go on
pub record IsHeldOrGivenUp (users : List ℕ) (journal : Entries) (e : PlainEntry) : Type 0 where
  pub held_now : (hold : Hold) → (e.answer ≡ held hold) ↔ ((refused journal e.party e.act ≡ Some hold) × ¬ IsTrue (waits journal e.party))
  pub given_up : (hold : Hold) → (e.answer ≡ abandoned hold) ↔ ((refused journal e.party e.act ≡ Some hold) × IsTrue (waits journal e.party))
  pub stuck : (hold : Hold) → e.answer ≡ abandoned hold → IsTrue (is_stuck users journal)

-- each entry of a legal journal holds, or gives up, as it may
abbrev pub HoldsAreGivenOrGivenUp : Type 0
HoldsAreGivenOrGivenUp = (users : List ℕ) (journal : Entries) (e : PlainEntry) → IsLegal users (e ∷ journal) → IsHeldOrGivenUp users journal e

-- nobody can go on: some user stays; whoever stays waits, and is refused still; each auxiliary is idle
pub record IsStuck (users : List ℕ) (journal : Entries) : Type 0 where
  pub some : (user : ℕ) × Contains users user × IsTrue (not (has_left journal user))
  pub all : (user : ℕ) → Contains users user → IsTrue (not (has_left journal user)) → IsTrue (is_some (still_refused journal user))
  pub idle : (kind : AuxiliaryKind) → work_of journal (party_of kind) ≡ Idle

-- a journal is stuck exactly where nobody can go on
abbrev pub StuckIsWhereNobodyCanGoOn : Type 0
StuckIsWhereNobodyCanGoOn = (users : List ℕ) (journal : Entries) → IsTrue (is_stuck users journal) ↔ IsStuck users journal

-- in a legal journal only users leave
abbrev pub OnlyUsersLeave : Type 0
OnlyUsersLeave =
    (users : List ℕ) (journal : Entries) (e : PlainEntry) → IsLegal users (e ∷ journal) → e.act ≡ Leave → IsTrue (is_user users e.party)

-- an auxiliary's accesses are never refused
abbrev pub AuxiliariesAreNeverRefused : Type 0
AuxiliariesAreNeverRefused =
    (users : List ℕ) (journal : Entries) (e : PlainEntry) → IsLegal users (e ∷ journal) → IsTrue (is_auxiliary e.party) →
    refused journal e.party e.act ≡ None

-- no entry sets a control
abbrev pub SetNoControl : Entries → Type 0
SetNoControl journal = All (λ e. (act_row e.act).row.controls ≡ None) journal

-- where no entry sets a control nothing is refused
abbrev pub NothingIsRefusedWithoutControl : Type 0
NothingIsRefusedWithoutControl = (journal : Entries) (party : ℕ) (act : Act) → SetNoControl journal → refused journal party act ≡ None
