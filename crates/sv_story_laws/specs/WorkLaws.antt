use Rattle.std.specs.Prelude.{◌≡◌, ◌<◌, ◌≤◌, ◌↔◌, ℕ, Bool, List, ◌∷◌, ◌++◌, not, All, Contains, Option, Some, None, IsTrue, length, unwrap_or}
use Rattle.apl_arrays.specs.Array.{PlainArray}
use Rattle.apl_arrays.specs.Ascending.{Ascend}
use Rattle.sv_events.specs.Answer.{value}
use Rattle.sv_events.specs.Entry.{PlainEntry}
use Rattle.sv_events.specs.Work.{counter_name}
use Rattle.sv_events.specs.declared.event.Act.TheVariants.{Offer, Use}
use Rattle.sv_events.specs.declared.work.Work.{Work}
use Rattle.sv_events.specs.declared.work.Work.TheVariants as work
use Rattle.aux_parties.specs.Auxiliaries.{is_auxiliary, party_of, auxiliary_row}
use Rattle.sv_rules.specs.Control.{control_on}
use Rattle.sv_rules.specs.Coupling.{couplings, coupling_now, is_coupled, open_to}
use Rattle.sv_rules.specs.Entries.{Entries, next_place, since, is_full}
use Rattle.sv_rules.specs.Legal.{IsLegal}
use Rattle.sv_rules.specs.Questions.{parties_to}
use Rattle.sv_rules.specs.Standing.{standing, offer_count}
use Rattle.sv_rules.specs.Story.{known}
use Rattle.sv_rules.specs.Work.{first_coupled, first_open, lacks_control, owes_reply, has_unseen, to_counter, tries, gets_value, work_due, work_of}
use Rattle.aux_parties.specs.declared.auxiliary.AuxiliaryKind.{AuxiliaryKind}
use Rattle.sv_rules.specs.declared.coupling.Coupling.{Coupling}
use Rattle.sv_rules.specs.declared.standing.Standing.{Standing}

-- the offer is one of these, this holds of it, and of none of a lower place
pub record IsLowest (offers : List Standing) (holds : Standing → Type 0) (offer : Standing) : Type 0 where
  pub among : Contains offers offer
  pub here : holds offer
  pub lowest : (other : Standing) → Contains offers other → holds other → offer.place ≤ other.place

-- the offer is the party's own and open
pub record IsOwnOpen (journal : Entries) (party : ℕ) (offer : Standing) : Type 0 where
  pub own : offer.party ≡ party
  pub open_still : IsTrue (not (is_coupled (couplings journal) offer.place))

-- the offer is the party's own, and its coupling is so
pub record IsOwnCoupled (journal : Entries) (party : ℕ) (holds : Standing → Coupling → Type 0) (offer : Standing) : Type 0 where
  pub own : offer.party ≡ party
  pub coupling : Coupling
  pub found : coupling_now journal offer.place ≡ Some coupling
  pub here : holds offer coupling

-- the first open offer of a party is the one of the lowest place
abbrev pub FirstOpenIsLowest : Type 0
FirstOpenIsLowest =
    (journal : Entries) (party : ℕ) (offer : Standing) → (first_open journal party ≡ Some offer) ↔ IsLowest (standing journal) (IsOwnOpen journal party) offer

-- and so is the first coupled one of which something holds
abbrev pub FirstCoupledIsLowest : Type 0
FirstCoupledIsLowest =
    (journal : Entries) (holds : Standing → Coupling → Bool) (party : ℕ) (offer : Standing) →
    (first_coupled journal holds party ≡ Some offer) ↔
    IsLowest (standing journal) (IsOwnCoupled journal party (λ offer coupling. IsTrue (holds offer coupling))) offer

-- the auxiliary may have one offer more: fewer stand than its row has
abbrev pub MayCounter : Entries → ℕ → Type 0
MayCounter journal party = (kind : AuxiliaryKind) → party ≡ party_of kind → offer_count (standing journal) party < (auxiliary_row kind).counters

-- the offer is open and made to the auxiliary by its number, which may have one more
pub record IsToCounter (journal : Entries) (party : ℕ) (offer : Standing) : Type 0 where
  pub open_still : IsTrue (not (is_coupled (couplings journal) offer.place))
  pub made_to : offer.to ≡ party
  pub room : MayCounter journal party

-- the offer that an auxiliary is to counter is the one of the lowest place
abbrev pub FirstToCounterIsLowest : Type 0
FirstToCounterIsLowest =
    (journal : Entries) (party : ℕ) (offer : Standing) → IsTrue (is_auxiliary party) →
    (to_counter journal party ≡ Some offer) ↔ IsLowest (standing journal) (IsToCounter journal party) offer

-- each offer of an auxiliary in a legal journal counters this one: it is made to its party, under its surrogate, by the
-- local name of its own place, and hands in no value
abbrev pub CountersAreMadeToTheLowest : Type 0
CountersAreMadeToTheLowest =
    (users : List ℕ) (journal : Entries) (e : PlainEntry) → IsLegal users (e ∷ journal) → IsTrue (is_auxiliary e.party) →
    (to : ℕ) (local surrogate : List ℕ) (handed : Option PlainArray) → e.act ≡ Offer to local surrogate handed →
    (countered : Standing) × IsLowest (standing journal) (IsToCounter journal e.party) countered × (to ≡ countered.party)
    × (surrogate ≡ countered.surrogate) × (local ≡ counter_name (next_place journal)) × (handed ≡ None)

-- an offer lacks a control where no entry since the coupling is one of its party on its local name
abbrev pub ControlIsLackingSinceTheCoupling : Type 0
ControlIsLackingSinceTheCoupling =
    (journal : Entries) (offer : Standing) (coupling : Coupling) →
    IsTrue (lacks_control journal offer coupling) ↔ All (λ e. control_on offer e ≡ None) (since coupling.at journal)

-- a reply is owed where the last set or use since the coupling is a use that was answered with a value
abbrev pub RepliesAreOwedToUses : Type 0
RepliesAreOwedToUses =
    (journal : Entries) (offer : Standing) (coupling : Coupling) →
    IsTrue (owes_reply journal offer coupling) ↔
    ((before : Entries) × (e : PlainEntry) × (later : Entries) × (since coupling.at journal ≡ later ++ e ∷ before) × IsTrue (tries offer e)
    × IsTrue (gets_value offer e) × All (λ after. ¬ IsTrue (tries offer after)) later)

-- of these entries the last by which the offer's party set or used its local name is a use that got this value
pub record LastUseGot (offer : Standing) (entries : Entries) (v : PlainArray) : Type 0 where
  pub before : Entries
  pub e : PlainEntry
  pub later : Entries
  pub whole : entries ≡ later ++ e ∷ before
  pub own : e.party ≡ offer.party
  pub act : e.act ≡ Use offer.local
  pub got : e.answer ≡ value v
  pub last : All (λ after. ¬ IsTrue (tries offer after)) later

-- the value to reply to, what is known of the offer on which a reply is owed, is what the last use since the coupling got
abbrev pub RepliesAreToWhatTheLastUseGot : Type 0
RepliesAreToWhatTheLastUseGot =
    (users : List ℕ) (journal : Entries) → IsLegal users journal → (offer : Standing) (coupling : Coupling) → coupling_now journal offer.place ≡ Some coupling → IsTrue (owes_reply journal offer coupling) →
    (v : PlainArray) × (known journal offer ≡ Some v) × LastUseGot offer (since coupling.at journal) v

-- the entries that follow a place are the newest ones
abbrev pub SinceAreTheNewest : Type 0
SinceAreTheNewest = (before later : Entries) → since (length before) (later ++ before) ≡ later

-- there is no work where the journal is full
abbrev pub FullJournalsLeaveNoWork : Type 0
FullJournalsLeaveNoWork = (journal : Entries) (party : ℕ) → IsTrue (is_full journal) → work_of journal party ≡ work.Idle

-- this holds of no standing offer
abbrev pub HoldsOfNone : Entries → (Standing → Type 0) → Type 0
HoldsOfNone journal holds = (offer : Standing) → Contains (standing journal) offer → ¬ holds offer

-- the party's offer is coupled, and it lacks a control, owes a reply, or has not seen a set of the partner
abbrev pub LacksControl : Entries → ℕ → Standing → Type 0
LacksControl journal party = IsOwnCoupled journal party (λ offer coupling. IsTrue (lacks_control journal offer coupling))

-- the party's offer is coupled, and it owes a reply
abbrev pub OwesReply : Entries → ℕ → Standing → Type 0
OwesReply journal party = IsOwnCoupled journal party (λ offer coupling. IsTrue (owes_reply journal offer coupling))

-- the party's offer is coupled, and it has not seen a set of the partner
abbrev pub HasUnseen : Entries → ℕ → Standing → Type 0
HasUnseen journal party = IsOwnCoupled journal party (λ offer coupling. IsTrue (has_unseen journal offer coupling))

-- the work is the first kind that applies, for the offer of the lowest place, where none of the kinds before applies: an
-- open offer is retracted, a control set, a reply made, an offer countered, a set of the partner used
pub record IsFirstThatApplies (journal : Entries) (party : ℕ) (due : Option Work) : Type 0 where
  pub retract : (offer : Standing) → IsLowest (standing journal) (IsOwnOpen journal party) offer → due ≡ Some (work.Retract offer.local)
  pub control :
      HoldsOfNone journal (IsOwnOpen journal party) →
      (offer : Standing) → IsLowest (standing journal) (LacksControl journal party) offer → due ≡ Some (work.Control offer.local)
  pub reply :
      HoldsOfNone journal (IsOwnOpen journal party) → HoldsOfNone journal (LacksControl journal party) →
      (offer : Standing) → IsLowest (standing journal) (OwesReply journal party) offer → due ≡ Some (work.Reply offer.local)
  pub counter :
      HoldsOfNone journal (IsOwnOpen journal party) → HoldsOfNone journal (LacksControl journal party) → HoldsOfNone journal (OwesReply journal party) →
      (offer : Standing) → IsLowest (standing journal) (IsToCounter journal party) offer → due ≡ Some (work.Counter offer.party offer.surrogate)
  pub use_set :
      HoldsOfNone journal (IsOwnOpen journal party) → HoldsOfNone journal (LacksControl journal party) → HoldsOfNone journal (OwesReply journal party) →
      HoldsOfNone journal (IsToCounter journal party) →
      (offer : Standing) → IsLowest (standing journal) (HasUnseen journal party) offer → due ≡ Some (work.Use offer.local)
  pub none :
      HoldsOfNone journal (IsOwnOpen journal party) → HoldsOfNone journal (LacksControl journal party) → HoldsOfNone journal (OwesReply journal party) →
      HoldsOfNone journal (IsToCounter journal party) → HoldsOfNone journal (HasUnseen journal party) → due ≡ None

-- the work that is due to an auxiliary is so
abbrev pub WorkIsTheFirstThatApplies : Type 0
WorkIsTheFirstThatApplies = (journal : Entries) (party : ℕ) → IsTrue (is_auxiliary party) → IsFirstThatApplies journal party (work_due journal party)

-- and it is its work while the journal has room
abbrev pub WorkIsWhatIsDue : Type 0
WorkIsWhatIsDue = (journal : Entries) (party : ℕ) → IsTrue (not (is_full journal)) → work_of journal party ≡ unwrap_or (work_due journal party) work.Idle

-- the parties that a question tells ascend, each once, and are those with open offers made by number
pub record TellsParties (journal : Entries) (party : ℕ) : Type 0 where
  pub ascend : Ascend (parties_to journal party)
  pub those : (from : ℕ) → Contains (parties_to journal party) from ↔ ((offer : Standing) × Contains (open_to journal party) offer × (offer.party ≡ from))

-- each question tells the parties so
abbrev pub QuestionsTellParties : Type 0
QuestionsTellParties = (journal : Entries) (party : ℕ) → TellsParties journal party
