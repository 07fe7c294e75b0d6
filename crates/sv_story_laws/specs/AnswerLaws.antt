-- What acts are answered, in the order of the answers: without an offer, past the limit, refused, and without a value.
use Rattle.std.specs.Prelude.{◌≡◌, ◌↔◌, ◌⊎◌, ℕ, List, ◌∷◌, Contains, Option, Some, None}
use Rattle.apl_arrays.specs.Array.{PlainArray}
use Rattle.apl_arrays.specs.Limits.{most_offers}
use Rattle.sv_access.specs.Control.{combined}
use Rattle.sv_access.specs.Story.{last_value, state_of_story}
use Rattle.sv_access.specs.Table.{element_of, owners_of, verdict_of}
use Rattle.sv_access.specs.declared.access.Kind.{Kind}
use Rattle.sv_access.specs.declared.access.Kind.TheVariants as kind
use Rattle.sv_access.specs.declared.verdict.Owners.{Owners}
use Rattle.sv_access.specs.declared.verdict.Verdict.{Verdict}
use Rattle.sv_access.specs.declared.verdict.Verdict.TheVariants.{Granted, Held}
use Rattle.sv_events.specs.Answer.{PlainAnswer, granted, value, no_value, held, abandoned, not_shared, offer_limit}
use Rattle.sv_events.specs.Entry.{PlainEntry}
use Rattle.sv_events.specs.declared.event.Act.{Act}
use Rattle.sv_events.specs.declared.event.Act.TheVariants.{Offer, Retract, SetControl, Set, Use}
use Rattle.sv_events.specs.declared.event.Hold.{Hold}
use Rattle.sv_rules.specs.Control.{sharing}
use Rattle.sv_rules.specs.Coupling.{coupling_now}
use Rattle.sv_rules.specs.Entries.{Entries}
use Rattle.sv_rules.specs.Legal.{IsLegal}
use Rattle.sv_rules.specs.Standing.{standing, offer_count}
use Rattle.sv_rules.specs.Story.{known, story}
use Rattle.sv_rules.specs.declared.coupling.Coupling.{Coupling}
use Rattle.sv_rules.specs.declared.standing.Standing.{Standing}

-- the act is a set or a use of the local name
abbrev pub Accesses : Kind → List ℕ → Act → Type 0
Accesses kind.Set local act = (new : PlainArray) × (act ≡ Set local new)
Accesses kind.Use local act = act ≡ Use local

-- the entry sets or uses a name that stands at that moment, by this offer of its party
pub record IsAccessOf (journal : Entries) (e : PlainEntry) (kind : Kind) (offer : Standing) : Type 0 where
  pub stands : Contains (standing journal) offer
  pub own : e.party ≡ offer.party
  pub act : Accesses kind offer.local e.act

-- the answer grants the access: Granted to a set, and to a use a value, or that there is none
abbrev pub Grants : Kind → PlainAnswer → Type 0
Grants kind.Set given = given ≡ granted
Grants kind.Use given = ((got : PlainArray) × (given ≡ value got)) ⊎ (given ≡ no_value)

-- what the access table says of an access of the offer's party, over the plain story of that moment
abbrev pub table_on : Entries → Kind → Standing → Verdict
table_on journal kind offer =
    let shared = sharing journal offer in verdict_of (combined shared.a shared.b) (state_of_story shared.story) shared.side kind

-- whose the 1 is at the element of the access, as the party sees it
abbrev pub owners_on : Entries → Kind → Standing → Owners
owners_on journal kind offer = let shared = sharing journal offer in owners_of shared.a shared.b shared.side (element_of shared.side kind)

-- in a legal journal a set or a use of a name that stands is granted exactly where the access table refuses nothing
abbrev pub GrantedExactlyWhereTheTableAllows : Type 0
GrantedExactlyWhereTheTableAllows =
    (users : List ℕ) (journal : Entries) (e : PlainEntry) → IsLegal users (e ∷ journal) → (kind : Kind) (offer : Standing) → IsAccessOf journal e kind offer →
    Grants kind e.answer ↔ (table_on journal kind offer ≡ Granted)

-- and it is held, or its wait is given up, exactly where the table refuses it, by the element and the owners of the table
abbrev pub RefusedByTheElementNamed : Type 0
RefusedByTheElementNamed =
    (users : List ℕ) (journal : Entries) (e : PlainEntry) → IsLegal users (e ∷ journal) → (kind : Kind) (offer : Standing) → IsAccessOf journal e kind offer →
    (hold : Hold) →
    ((e.answer ≡ held hold) ⊎ (e.answer ≡ abandoned hold)) ↔ ((table_on journal kind offer ≡ Held hold.element) × (hold.owners ≡ owners_on journal kind offer))

-- the party has no standing offer of the local name
abbrev pub HasNoOffer : Entries → ℕ → List ℕ → Type 0
HasNoOffer journal party local = (offer : Standing) → Contains (standing journal) offer → offer.party ≡ party → ¬ (offer.local ≡ local)

-- the local name that must stand for an act: the one that it takes back, controls, sets or uses
abbrev pub needed_name : Act → Option (List ℕ)
needed_name (Retract local) = Some local
needed_name (SetControl local control) = Some local
needed_name (Set local new) = Some local
needed_name (Use local) = Some local
needed_name _ = None

-- in a legal journal the answer is NotShared exactly where the act is a retraction, a control, a set or a use of a name of
-- which its party has no standing offer
abbrev pub NotSharedExactlyWithoutAnOffer : Type 0
NotSharedExactlyWithoutAnOffer =
    (users : List ℕ) (journal : Entries) (e : PlainEntry) → IsLegal users (e ∷ journal) →
    (e.answer ≡ not_shared) ↔ ((local : List ℕ) × (needed_name e.act ≡ Some local) × HasNoOffer journal e.party local)

-- the act offers a name that does not stand, and its party has 64 standing offers
pub record IsPastTheLimit (journal : Entries) (party : ℕ) (act : Act) : Type 0 where
  pub to : ℕ
  pub local : List ℕ
  pub surrogate : List ℕ
  pub handed : Option PlainArray
  pub offers : act ≡ Offer to local surrogate handed
  pub unshared : HasNoOffer journal party local
  pub many : offer_count (standing journal) party ≡ most_offers

-- in a legal journal the answer is OfferLimit exactly there
abbrev pub OfferLimitExactlyPastTheLimit : Type 0
OfferLimitExactlyPastTheLimit =
    (users : List ℕ) (journal : Entries) (e : PlainEntry) → IsLegal users (e ∷ journal) → (e.answer ≡ offer_limit) ↔ IsPastTheLimit journal e.party e.act

-- what there is for a use: in a coupling the last value set in its story, and while the offer is open what its party knows
pub record IsThere (journal : Entries) (offer : Standing) (found : Option PlainArray) : Type 0 where
  pub coupled : (coupling : Coupling) → coupling_now journal offer.place ≡ Some coupling → last_value (story journal coupling) ≡ found
  pub alone : coupling_now journal offer.place ≡ None → known journal offer ≡ found

-- in a legal journal a use of a name that stands is answered with a value exactly where nothing refuses it and this is there
abbrev pub UsesGetWhatIsThere : Type 0
UsesGetWhatIsThere =
    (users : List ℕ) (journal : Entries) (e : PlainEntry) → IsLegal users (e ∷ journal) → (offer : Standing) → IsAccessOf journal e kind.Use offer →
    (got : PlainArray) → (e.answer ≡ value got) ↔ ((table_on journal kind.Use offer ≡ Granted) × IsThere journal offer (Some got))

-- and the answer is NoValue exactly where the act is a use of a name that stands, nothing refuses it, and there is no value
abbrev pub NoValueExactlyWhereNoneIsThere : Type 0
NoValueExactlyWhereNoneIsThere =
    (users : List ℕ) (journal : Entries) (e : PlainEntry) → IsLegal users (e ∷ journal) →
    (e.answer ≡ no_value) ↔
    ((offer : Standing) × IsAccessOf journal e kind.Use offer × (table_on journal kind.Use offer ≡ Granted) × IsThere journal offer None)
