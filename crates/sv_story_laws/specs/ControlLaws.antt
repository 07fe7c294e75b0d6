use Rattle.std.specs.Prelude.{◌≡◌, ◌↔◌, ℕ, List, ◌∷◌, ◌++◌, All, Contains, Some, None, length}
use Rattle.std.specs.Option.{IfSome}
use Rattle.sv_access.specs.Control.{combined, in_view, no_control}
use Rattle.sv_access.specs.State.{vector_of_state}
use Rattle.sv_access.specs.Story.{state_of_story}
use Rattle.sv_access.specs.Table.{element_of, verdict_of, owners_of}
use Rattle.sv_access.specs.declared.access.Kind.{Kind}
use Rattle.sv_access.specs.declared.control.Control.{Control}
use Rattle.sv_access.specs.declared.verdict.Owners.TheVariants.{Mine}
use Rattle.sv_access.specs.declared.verdict.Verdict.TheVariants.{Granted, Held}
use Rattle.sv_events.specs.Entry.{PlainEntry}
use Rattle.sv_events.specs.declared.event.Act.TheVariants.{SetControl}
use Rattle.sv_events.specs.declared.event.Hold.{Hold}
use Rattle.sv_rules.specs.Control.{control_on, vector_of, side_at, sharing, control_in_force, state_vector_of}
use Rattle.sv_rules.specs.Coupling.{coupling_now}
use Rattle.sv_rules.specs.Entries.{Entries, next_place}
use Rattle.sv_rules.specs.Legal.{IsLegal}
use Rattle.sv_rules.specs.Refused.{hold_on}
use Rattle.sv_rules.specs.Standing.{standing}
use Rattle.sv_rules.specs.Story.{story}
use Rattle.sv_rules.specs.declared.coupling.Coupling.{Coupling}
use Rattle.sv_rules.specs.declared.standing.Standing.{Standing}

-- an entry sets a control on an offer where it is a control of its party on its local name
abbrev pub ControlsAreSetByTheParty : Type 0
ControlsAreSetByTheParty =
    (offer : Standing) (e : PlainEntry) (control : Control) →
    (control_on offer e ≡ Some control) ↔ ((e.party ≡ offer.party) × (e.act ≡ SetControl offer.local control))

-- none of the entries sets a control on the offer
abbrev pub SetsNoControl : Standing → Entries → Type 0
SetsNoControl offer entries = All (λ e. control_on offer e ≡ None) entries

-- the vector of an offer is the last control that its party set on it after its entry
abbrev pub VectorIsTheLastControl : Type 0
VectorIsTheLastControl =
    (offer : Standing) (before : Entries) (offered : PlainEntry) (between : Entries) (e : PlainEntry) (later : Entries) (control : Control) →
    offer.place ≡ next_place before → control_on offer e ≡ Some control → SetsNoControl offer later →
    vector_of (later ++ e ∷ (between ++ offered ∷ before)) offer ≡ control

-- where none was set it is 0 0 0 0
abbrev pub VectorIsNoneAtFirst : Type 0
VectorIsNoneAtFirst =
    (offer : Standing) (before : Entries) (offered : PlainEntry) (later : Entries) →
    offer.place ≡ next_place before → SetsNoControl offer later → vector_of (later ++ offered ∷ before) offer ≡ no_control

-- the control in force of an open offer is its vector
abbrev pub ControlOfAnOpenOfferIsItsVector : Type 0
ControlOfAnOpenOfferIsItsVector =
    (journal : Entries) (offer : Standing) → coupling_now journal offer.place ≡ None → length (vector_of journal offer).0 ≡ 4 →
    control_in_force journal (Some offer) ≡ vector_of journal offer

-- and of a coupled one it is the joint one of the coupling, as its side sees it
abbrev pub ControlOfACoupledOfferIsTheJointOne : Type 0
ControlOfACoupledOfferIsTheJointOne =
    (users : List ℕ) (journal : Entries) → IsLegal users journal → (offer : Standing) (coupling : Coupling) → Contains (standing journal) offer →
    coupling_now journal offer.place ≡ Some coupling →
    control_in_force journal (Some offer) ≡
    in_view (side_at coupling offer.place) (combined (vector_of journal coupling.a) (vector_of journal coupling.b))

-- the access table, asked of the plain story, decides each access: it is granted, or held by the element that refuses it,
-- in A's numbering, with those who set this element to 1, named from the side that is held
abbrev pub HoldsAreThoseOfTheTable : Type 0
HoldsAreThoseOfTheTable =
    (journal : Entries) (kind : Kind) (offer : Standing) →
    let shared = sharing journal offer in let joint = combined shared.a shared.b in
    ((hold_on journal kind (Some offer) ≡ None) ↔ (verdict_of joint (state_of_story shared.story) shared.side kind ≡ Granted))
    × ((hold : Hold) →
    (hold_on journal kind (Some offer) ≡ Some hold) ↔
    ((verdict_of joint (state_of_story shared.story) shared.side kind ≡ Held hold.element)
    × (hold.owners ≡ owners_of shared.a shared.b shared.side (element_of shared.side kind))))

-- what refuses an access of an open offer is always its party's own
abbrev pub HoldsOfOpenOffersAreMine : Type 0
HoldsOfOpenOffersAreMine =
    (journal : Entries) (kind : Kind) (offer : Standing) → coupling_now journal offer.place ≡ None →
    IfSome (hold_on journal kind (Some offer)) (λ hold. hold.owners ≡ Mine)

-- the state vector of a coupling is that of the state of its story, as each side sees it
abbrev pub StateVectorsAreOfTheStory : Type 0
StateVectorsAreOfTheStory =
    (journal : Entries) (place : ℕ) (coupling : Coupling) →
    state_vector_of journal place (Some coupling) ≡ vector_of_state (state_of_story (story journal coupling)) (side_at coupling place)
