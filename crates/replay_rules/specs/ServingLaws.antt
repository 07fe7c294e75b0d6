-- What the entries of auxiliaries are to what answers behind them, and how those that wait are answered.
use Rattle.std.specs.Prelude.{◌≡◌, ℕ, false, List, ◌∷◌, None, Some, IsTrue}
use Rattle.apl_arrays.specs.Array.{PlainArray}
use Rattle.auxiliaries.specs.Run.{answered, began}
use Rattle.sv_core.specs.Due.{request_due, customer_of, is_reply, is_service}
use Rattle.sv_events.specs.Work.{act_of, all_controlled}
use Rattle.sv_events.specs.declared.event.Act.{Act}
use Rattle.sv_events.specs.declared.event.Act.TheVariants as act
use Rattle.sv_events.specs.declared.work.Work.TheVariants as work
use Rattle.sv_rules.specs.Coupling.{coupling_now}
use Rattle.sv_rules.specs.Entries.{Entries, is_held, kind_of, next_place, since}
use Rattle.sv_rules.specs.Legal.{IsLegal, answer_to, journal_after}
use Rattle.sv_rules.specs.Refused.{waits}
use Rattle.sv_rules.specs.Standing.{standing}
use Rattle.sv_rules.specs.Work.{work_of}
use Rattle.sv_rules.specs.declared.coupling.Coupling.{Coupling}
use Rattle.sv_rules.specs.declared.standing.Standing.{Standing}
use Rattle.sv_story_laws.specs.WorkLaws.{IsLowest, LastUseGot, OwesReply}
use Rattle.session_rules.specs.Auxiliaries.{events_of}
use Rattle.replay_rules.specs.Turns.{served}

-- where an auxiliary has to set a control, its entry begins with the partner
abbrev pub ControlsBegin : Type 0
ControlsBegin =
    (journal : Entries) (party : ℕ) (local : List ℕ) (customer : ℕ) → work_of journal party ≡ work.Control local → customer_of journal party ≡ Some customer
    → events_of (journal_after journal party (act.SetControl local all_controlled)) party ≡ began customer ∷ events_of journal party

-- where it has to reply, its entry answers the partner's value
abbrev pub RepliesAnswer : Type 0
RepliesAnswer =
    (users : List ℕ) (journal : Entries) → IsLegal users journal → (party : ℕ) (local : List ℕ) (customer : ℕ) (value reply : PlainArray) → work_of journal party ≡ work.Reply local
    → customer_of journal party ≡ Some customer → request_due journal party ≡ Some value
    → events_of (journal_after journal party (act.Set local reply)) party ≡ answered customer value reply ∷ events_of journal party

-- of its own coupled offers on which it owes a reply the one of the lowest place has this local name, and its last use there got this value
pub record IsRequest (journal : Entries) (party : ℕ) (local : List ℕ) (value : PlainArray) : Type 0 where
  pub offer : Standing
  pub lowest : IsLowest (standing journal) (OwesReply journal party) offer
  pub named : offer.local ≡ local
  pub coupling : Coupling
  pub coupled : coupling_now journal offer.place ≡ Some coupling
  pub got : LastUseGot offer (since coupling.at journal) value

-- an auxiliary that has to reply is handed what its last use got
abbrev pub RequestsAreWhatTheLastUseGot : Type 0
RequestsAreWhatTheLastUseGot =
    (users : List ℕ) (journal : Entries) → IsLegal users journal → (party : ℕ) (local : List ℕ) → work_of journal party ≡ work.Reply local
    → (value : PlainArray) × (request_due journal party ≡ Some value) × IsRequest journal party local value

-- the entry of any other work is nothing to it
abbrev pub OtherWorkTellsNothing : Type 0
OtherWorkTellsNothing =
    (journal : Entries) (party : ℕ) (made : Act) → is_service (work_of journal party) ≡ false → act_of (work_of journal party) (next_place journal) None ≡ Some made
    → events_of (journal_after journal party made) party ≡ events_of journal party

-- the turn of an auxiliary: without work it does nothing; with work it makes the act of it, and a reply is the next one that it has to give
pub record ServesItsWork (journal : Entries) (party : ℕ) : Type 0 where
  pub idle : (replies : List PlainArray) → work_of journal party ≡ work.Idle → served journal party replies ≡ record { journal = journal; replies = replies }
  pub made : (replies : List PlainArray) (made : Act) → is_reply (work_of journal party) ≡ false → act_of (work_of journal party) (next_place journal) None ≡ Some made
      → served journal party replies ≡ record { journal = journal_after journal party made; replies = replies }
  pub replied : (local : List ℕ) (reply : PlainArray) (replies : List PlainArray) → work_of journal party ≡ work.Reply local
      → served journal party (reply ∷ replies) ≡ record { journal = journal_after journal party (act.Set local reply); replies = replies }

-- each auxiliary serves its work in each turn
abbrev pub AuxiliariesServeTheirWork : Type 0
AuxiliariesServeTheirWork = (journal : Entries) (party : ℕ) → ServesItsWork journal party

-- whatever a party does that waits, the answer does not hold it again
abbrev pub WaitersAreAnswered : Type 0
WaitersAreAnswered = (journal : Entries) (party : ℕ) (made : Act) → IsTrue (waits journal party) → is_held (kind_of (answer_to journal party made)) ≡ false
