-- What a control that is set and each question is answered.
use Rattle.std.specs.Prelude.{◌≡◌, ◌<◌, ◌↔◌, ℕ, List, ◌∷◌, not, map, AllPairs, Contains, IsTrue, Some, None}
use Rattle.apl_arrays.specs.Ascending.{Ascend}
use Rattle.sv_access.specs.Control.{no_control}
use Rattle.sv_access.specs.State.{vector_of_state}
use Rattle.sv_access.specs.Story.{state_of_story}
use Rattle.sv_access.specs.declared.control.Control.{Control}
use Rattle.sv_events.specs.Answer.{degree, names, parties, vector}
use Rattle.sv_events.specs.Entry.{PlainEntry}
use Rattle.sv_events.specs.declared.event.Act.TheVariants.{AskControl, AskDegree, AskNames, AskParties, AskState, SetControl}
use Rattle.sv_rules.specs.Control.{control_in_force, side_at}
use Rattle.sv_rules.specs.Coupling.{coupling_now, couplings, is_coupled}
use Rattle.sv_rules.specs.Entries.{Entries}
use Rattle.sv_rules.specs.Legal.{IsLegal}
use Rattle.sv_rules.specs.Standing.{standing}
use Rattle.sv_rules.specs.Story.{story}
use Rattle.sv_rules.specs.declared.coupling.Coupling.{Coupling}
use Rattle.sv_rules.specs.declared.standing.Standing.{Standing}
use Rattle.sv_offer_laws.specs.OfferLaws.{HasDegree, IsOwn}
use Rattle.sv_story_laws.specs.AnswerLaws.{HasNoOffer}

-- in a legal journal a control of a name that stands is answered with the control in force after it, in its party's view
abbrev pub ControlsAreAnsweredWhatIsInForceAfter : Type 0
ControlsAreAnsweredWhatIsInForceAfter =
    (users : List ℕ) (journal : Entries) (e : PlainEntry) → IsLegal users (e ∷ journal) → (local : List ℕ) (control : Control) → e.act ≡ SetControl local control → (offer : Standing) → IsOwn journal e.party local offer →
    e.answer ≡ vector (control_in_force (e ∷ journal) (Some offer))

-- what a question on a name is answered: by the offer of its party, or where none stands
pub record TellsControl (journal : Entries) (e : PlainEntry) (local : List ℕ) : Type 0 where
  pub stands : (offer : Standing) → IsOwn journal e.party local offer → e.answer ≡ vector (control_in_force journal (Some offer))
  pub none : HasNoOffer journal e.party local → e.answer ≡ vector no_control

-- the state vector is that of the coupling's story, as the offer's side sees it, and none below degree 2
pub record TellsState (journal : Entries) (e : PlainEntry) (local : List ℕ) : Type 0 where
  pub coupled : (offer : Standing) → IsOwn journal e.party local offer → (coupling : Coupling) → coupling_now journal offer.place ≡ Some coupling →
      e.answer ≡ vector (vector_of_state (state_of_story (story journal coupling)) (side_at coupling offer.place))
  pub alone : (offer : Standing) → IsOwn journal e.party local offer → coupling_now journal offer.place ≡ None → e.answer ≡ vector no_control
  pub none : HasNoOffer journal e.party local → e.answer ≡ vector no_control

-- the degree is that of the offer, and 0 where none stands
pub record TellsDegree (journal : Entries) (e : PlainEntry) (local : List ℕ) : Type 0 where
  pub stands : (offer : Standing) → IsOwn journal e.party local offer → (d : ℕ) × (e.answer ≡ degree d) × HasDegree journal offer d
  pub none : HasNoOffer journal e.party local → e.answer ≡ degree 0

-- the offer stands, is open, and is made to a party by its number, by this one
pub record IsMadeTo (journal : Entries) (to from : ℕ) (offer : Standing) : Type 0 where
  pub stands : Contains (standing journal) offer
  pub open_still : IsTrue (not (is_coupled (couplings journal) offer.place))
  pub made_to : offer.to ≡ to
  pub made_by : offer.party ≡ from

-- parties are told by number, ascending, each once: those that have such offers to the party that asks
pub record AreParties (journal : Entries) (to : ℕ) (numbers : List ℕ) : Type 0 where
  pub ascend : Ascend numbers
  pub those : (from : ℕ) → Contains numbers from ↔ ((offer : Standing) × IsMadeTo journal to from offer)

-- names are told by the places of the offers of one party: those that are so
pub record AreNamesOf (journal : Entries) (to from : ℕ) (offers : List Standing) : Type 0 where
  pub by_place : AllPairs (λ one other. one.place < other.place) offers
  pub those : (offer : Standing) → Contains offers offer ↔ IsMadeTo journal to from offer

-- in a legal journal each question is answered so
abbrev pub QuestionsOfControl : Type 0
QuestionsOfControl = (users : List ℕ) (journal : Entries) (e : PlainEntry) → IsLegal users (e ∷ journal) → (local : List ℕ) → e.act ≡ AskControl local → TellsControl journal e local

-- a question about a state is answered by the state
abbrev pub QuestionsOfState : Type 0
QuestionsOfState = (users : List ℕ) (journal : Entries) (e : PlainEntry) → IsLegal users (e ∷ journal) → (local : List ℕ) → e.act ≡ AskState local → TellsState journal e local

-- a question about a degree is answered by the degree
abbrev pub QuestionsOfDegree : Type 0
QuestionsOfDegree = (users : List ℕ) (journal : Entries) (e : PlainEntry) → IsLegal users (e ∷ journal) → (local : List ℕ) → e.act ≡ AskDegree local → TellsDegree journal e local

-- a question about parties is answered by those with open offers
abbrev pub QuestionsOfParties : Type 0
QuestionsOfParties =
    (users : List ℕ) (journal : Entries) (e : PlainEntry) → IsLegal users (e ∷ journal) → e.act ≡ AskParties → (numbers : List ℕ) × (e.answer ≡ parties numbers) × AreParties journal e.party numbers

-- a question about names is answered by the names that a party offers
abbrev pub QuestionsOfNames : Type 0
QuestionsOfNames =
    (users : List ℕ) (journal : Entries) (e : PlainEntry) → IsLegal users (e ∷ journal) → (from : ℕ) → e.act ≡ AskNames from →
    (offers : List Standing) × (e.answer ≡ names (map (λ offer. offer.surrogate) offers)) × AreNamesOf journal e.party from offers
