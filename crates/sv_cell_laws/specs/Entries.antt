-- Which entries touch nothing, set a control, or make an access, by what becomes of their acts.
use Rattle.std.specs.Prelude.{◌≡◌, ℕ, List, Some, None, true, nat_le}
use Rattle.apl_arrays.specs.Array.{PlainArray}
use Rattle.apl_arrays.specs.Limits.{most_offers}
use Rattle.sv_access.specs.declared.access.Kind.TheVariants as kind
use Rattle.sv_cell_laws.specs.Steps.{MakesAccess, SetsControl, TouchesNothing, set_access, use_access}
use Rattle.sv_events.specs.Row.{act_row}
use Rattle.sv_events.specs.declared.event.Act.{Act}
use Rattle.sv_events.specs.declared.event.Hold.{Hold}
use Rattle.sv_events.specs.declared.row.Accessing.{Accessing}
use Rattle.sv_events.specs.declared.row.Controlling.{Controlling}
use Rattle.sv_events.specs.declared.row.Ending.TheVariants.{One}
use Rattle.sv_events.specs.declared.row.Opening.{Opening}
use Rattle.sv_events.specs.declared.row.Question.{Question}
use Rattle.sv_rules.specs.Coupling.{coupling_now}
use Rattle.sv_rules.specs.Entries.{Entries}
use Rattle.sv_rules.specs.Legal.{IsLegal, MayFollow, entry_for}
use Rattle.sv_rules.specs.Outcome.{value_for}
use Rattle.sv_rules.specs.Refused.{hold_on}
use Rattle.sv_rules.specs.Standing.{offer_count, own_offer, standing}
use Rattle.sv_rules.specs.declared.standing.Standing.{Standing}

-- a question touches nothing
abbrev pub QuestionsTouchNothing : Type 0
QuestionsTouchNothing =
    (journal : Entries) (party : ℕ) (act : Act) (asked : Question) → (act_row act).row.asks ≡ Some asked → TouchesNothing journal (entry_for journal party act)

-- nor does a retraction, a control or an access of a name that does not stand
abbrev pub RetractionsOfNoneTouchNothing : Type 0
RetractionsOfNoneTouchNothing =
    (journal : Entries) (party : ℕ) (act : Act) (local : List ℕ) → (act_row act).row.ends ≡ Some (One local) → own_offer (standing journal) party local ≡ None →
    TouchesNothing journal (entry_for journal party act)

-- a control of a name that does not stand touches nothing
abbrev pub ControlsOfNoneTouchNothing : Type 0
ControlsOfNoneTouchNothing =
    (journal : Entries) (party : ℕ) (act : Act) (set : Controlling) → (act_row act).row.controls ≡ Some set → own_offer (standing journal) party set.local ≡ None →
    TouchesNothing journal (entry_for journal party act)

-- an access of a name that does not stand touches nothing
abbrev pub AccessesOfNoneTouchNothing : Type 0
AccessesOfNoneTouchNothing =
    (journal : Entries) (party : ℕ) (act : Act) (access : Accessing) → (act_row act).row.accesses ≡ Some access → own_offer (standing journal) party access.local ≡ None →
    TouchesNothing journal (entry_for journal party act)

-- nor an offer of a name that stands, or one more than a party may have
abbrev pub OffersAgainTouchNothing : Type 0
OffersAgainTouchNothing =
    (journal : Entries) (party : ℕ) (act : Act) (opening : Opening) (old : Standing) → (act_row act).row.opens ≡ Some opening →
    own_offer (standing journal) party opening.local ≡ Some old → TouchesNothing journal (entry_for journal party act)

-- an offer past the limit of a party touches nothing
abbrev pub OffersPastTheLimitTouchNothing : Type 0
OffersPastTheLimitTouchNothing =
    (journal : Entries) (party : ℕ) (act : Act) (opening : Opening) → (act_row act).row.opens ≡ Some opening → own_offer (standing journal) party opening.local ≡ None →
    nat_le most_offers (offer_count (standing journal) party) ≡ true → TouchesNothing journal (entry_for journal party act)

-- nor a refused access
abbrev pub RefusedTouchNothing : Type 0
RefusedTouchNothing =
    (users : List ℕ) (journal : Entries) (party : ℕ) (act : Act) (access : Accessing) (own : Standing) (hold : Hold) → IsLegal users journal →
    MayFollow users journal (entry_for journal party act) → (act_row act).row.accesses ≡ Some access → own_offer (standing journal) party access.local ≡ Some own →
    hold_on journal access.kind (Some own) ≡ Some hold → TouchesNothing journal (entry_for journal party act)

-- a control of an offer that stands is set there
abbrev pub ControlsAreSet : Type 0
ControlsAreSet =
    (journal : Entries) (party : ℕ) (act : Act) (set : Controlling) (own : Standing) → (act_row act).row.controls ≡ Some set → own_offer (standing journal) party set.local ≡ Some own →
    SetsControl journal (entry_for journal party act) own set.control

-- an access that is not refused is made there
abbrev pub SetsAreMade : Type 0
SetsAreMade =
    (journal : Entries) (party : ℕ) (act : Act) (access : Accessing) (own : Standing) (v : PlainArray) → (act_row act).row.accesses ≡ Some access → access.kind ≡ kind.Set →
    own_offer (standing journal) party access.local ≡ Some own → hold_on journal access.kind (Some own) ≡ None → (act_row act).hands_in ≡ Some v →
    MakesAccess journal (entry_for journal party act) own (set_access v)

-- a use that is not refused is made
abbrev pub UsesAreMade : Type 0
UsesAreMade =
    (journal : Entries) (party : ℕ) (act : Act) (access : Accessing) (own : Standing) → (act_row act).row.accesses ≡ Some access → access.kind ≡ kind.Use →
    own_offer (standing journal) party access.local ≡ Some own → hold_on journal access.kind (Some own) ≡ None →
    MakesAccess journal (entry_for journal party act) own (use_access (value_for journal own (coupling_now journal own.place)))
