-- What becomes of an act, by what it does.
use Rattle.std.proofs.Common.{◌∙◌, ◌≡◌, None, Option, Some, ap, refl, sym, ℕ}
use Rattle.std.proofs.lemmas.Option.{none-some, same_Some}
use Rattle.apl_arrays.specs.Array.{PlainArray}
use Rattle.sv_access.specs.declared.access.Kind.{Kind}
use Rattle.sv_events.specs.Answer.{granted, vector}
use Rattle.sv_events.specs.Row.{act_row, answer_row}
use Rattle.sv_events.specs.declared.event.Act.{Act}
use Rattle.sv_events.specs.declared.event.Act.TheVariants.{Offer, Set, SetControl, Use}
use Rattle.sv_events.specs.declared.row.Accessing.{Accessing}
use Rattle.sv_events.specs.declared.row.Controlling.{Controlling}
use Rattle.sv_events.specs.declared.row.Opening.{Opening}
use Rattle.sv_rules.specs.Control.{in_force_with}
use Rattle.sv_rules.specs.Coupling.{coupling_now}
use Rattle.sv_rules.specs.Entries.{Entries}
use Rattle.sv_rules.specs.Outcome.{ActOutcome, access_answer, access_outcome, control_answer, control_outcome, granted_answer, opening_outcome, outcome, unless_refused, value_answer, value_for}
use Rattle.sv_rules.specs.Refused.{hold_on}
use Rattle.sv_rules.specs.Standing.{own_offer, standing}
use Rattle.sv_rules.specs.declared.standing.Standing.{Standing}
use Rattle.sv_access.specs.declared.access.Kind.TheVariants as kind

pub outcome_of_opening : (journal : Entries) (party : ℕ) (act : Act) (opening : Opening) → (act_row act).row.opens ≡ Some opening → outcome journal party act ≡ opening_outcome journal party opening
outcome_of_opening journal party (Offer to local surrogate handed) opening h = ap (opening_outcome journal party) (same_Some _ opening h)
outcome_of_opening journal party _ opening h = absurd (none-some opening h)

pub outcome_of_control : (journal : Entries) (party : ℕ) (act : Act) (set : Controlling) → (act_row act).row.controls ≡ Some set → outcome journal party act ≡ control_outcome journal party set
outcome_of_control journal party (SetControl local control) set h = ap (control_outcome journal party) (same_Some _ set h)
outcome_of_control journal party _ set h = absurd (none-some set h)

pub outcome_of_access : (journal : Entries) (party : ℕ) (act : Act) (access : Accessing) → (act_row act).row.accesses ≡ Some access → outcome journal party act ≡ access_outcome journal party access
outcome_of_access journal party (Set local new) access h = ap (access_outcome journal party) (same_Some _ access h)
outcome_of_access journal party (Use local) access h = ap (access_outcome journal party) (same_Some _ access h)
outcome_of_access journal party _ access h = absurd (none-some access h)

-- the answer to a control of a standing offer
pub control_answered : (journal : Entries) (party : ℕ) (act : Act) (set : Controlling) (offer : Standing) → (act_row act).row.controls ≡ Some set → own_offer (standing journal) party set.local ≡ Some offer →
    vector (in_force_with journal set.control offer) ≡ (outcome journal party act).answer
control_answered journal party act set offer row own =
    sym (ap (λ (o : ActOutcome). o.answer) (outcome_of_control journal party act set row) ∙ ap (control_answer journal set.control) own)

-- the answer to an access of a standing offer that nothing refuses
answered_as : (journal : Entries) (party : ℕ) (act : Act) (access : Accessing) (offer : Standing) (k : Kind) → (act_row act).row.accesses ≡ Some access → access.kind ≡ k → own_offer (standing journal) party access.local ≡ Some offer →
    hold_on journal access.kind (Some offer) ≡ None → granted_answer journal offer k ≡ (outcome journal party act).answer
answered_as journal party act access offer k row is own free =
    sym (ap (λ (o : ActOutcome). o.answer) (outcome_of_access journal party act access row)
    ∙ ap (access_answer journal party access.kind) own
    ∙ ap (unless_refused journal party offer access.kind) free
    ∙ ap (granted_answer journal offer) is)

pub access_granted : (journal : Entries) (party : ℕ) (act : Act) (access : Accessing) (offer : Standing) → (act_row act).row.accesses ≡ Some access → access.kind ≡ kind.Set → own_offer (standing journal) party access.local ≡ Some offer →
    hold_on journal access.kind (Some offer) ≡ None → granted ≡ (outcome journal party act).answer
access_granted journal party act access offer row is own free = answered_as journal party act access offer kind.Set row is own free

pub use_granted : (journal : Entries) (party : ℕ) (act : Act) (access : Accessing) (offer : Standing) → (act_row act).row.accesses ≡ Some access → access.kind ≡ kind.Use → own_offer (standing journal) party access.local ≡ Some offer →
    hold_on journal access.kind (Some offer) ≡ None → value_answer (value_for journal offer (coupling_now journal offer.place)) ≡ (outcome journal party act).answer
use_granted journal party act access offer row is own free = answered_as journal party act access offer kind.Use row is own free

-- a set hands a value in
pub set_hands_in : (act : Act) (access : Accessing) → (act_row act).row.accesses ≡ Some access → access.kind ≡ kind.Set → (value : PlainArray) × ((act_row act).hands_in ≡ Some value)
set_hands_in (Set local new) access h is = (new, refl)
set_hands_in (Use local) access h is = absurd (let k : kind.Use ≡ kind.Set = ap (λ (a : Accessing). a.kind) (same_Some _ access h) ∙ is in cc)
set_hands_in _ access h is = absurd (none-some access h)

-- a use hands none in
pub use_hands_none : (act : Act) (access : Accessing) → (act_row act).row.accesses ≡ Some access → access.kind ≡ kind.Use → (act_row act).hands_in ≡ None
use_hands_none (Set local new) access h is = absurd (let k : kind.Set ≡ kind.Use = ap (λ (a : Accessing). a.kind) (same_Some _ access h) ∙ is in cc)
use_hands_none (Use local) access h is = refl
use_hands_none _ access h is = absurd (none-some access h)

-- the value in the answer of a use is what it gives
pub value_answered : (given : Option PlainArray) → (answer_row (value_answer given)).value ≡ given
value_answered None = refl
value_answered (Some value) = refl
