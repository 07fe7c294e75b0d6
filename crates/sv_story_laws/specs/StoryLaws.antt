use Rattle.std.specs.Prelude.{◌≡◌, ◌<◌, ◌≤◌, ◌⊎◌, ◌↔◌, ℕ, List, ◌∷◌, ◌++◌, IsTrue, length, All, Contains, Option, Some, None, is_some, if◌then◌else◌}
use Rattle.std.specs.List.{flat_map}
use Rattle.std.specs.Option.{option_or}
use Rattle.apl_arrays.specs.Array.{PlainArray}
use Rattle.sv_rules.specs.Limits.{most_entries, most_journal_elements}
use Rattle.sv_access.specs.declared.access.Side.{Side}
use Rattle.sv_access.specs.declared.access.Side.TheVariants.{A, B}
use Rattle.sv_access.specs.declared.access.Kind.{Kind}
use Rattle.sv_access.specs.declared.access.Kind.TheVariants as kind
use Rattle.sv_access.specs.declared.state.AccessState.{AccessState}
use Rattle.sv_access.specs.declared.state.AccessState.TheVariants.{Quiet, UnseenA, UnseenB}
use Rattle.sv_access.specs.Access.{Access}
use Rattle.sv_access.specs.Story.{Story, last_value, state_of_story}
use Rattle.sv_events.specs.Answer.{PlainAnswer, granted, value}
use Rattle.sv_events.specs.Entry.{PlainEntry}
use Rattle.sv_events.specs.declared.event.Act.{Act}
use Rattle.sv_events.specs.declared.event.Act.TheVariants.{Set, Use}
use Rattle.sv_rules.specs.declared.standing.Standing.{Standing}
use Rattle.sv_rules.specs.declared.coupling.Coupling.{Coupling}
use Rattle.sv_rules.specs.declared.coupling.Made.{Made}
use Rattle.sv_rules.specs.Coupling.{couplings, both_stand, has_place, open_offers, coupling_now}
use Rattle.sv_rules.specs.Entries.{Entries, next_place, counted_entries, held_elements, is_full}
use Rattle.sv_rules.specs.Legal.{IsLegal}
use Rattle.sv_rules.specs.Outcome.{value_for}
use Rattle.sv_rules.specs.Standing.{standing}
use Rattle.sv_rules.specs.Story.{GrantedAccess, access_on, story_part, known, handed_in, opens_at, opening, first_set, giver_story, story}

-- the act and its answer are an access of this kind on a local name: a set of the value that was granted, or a use that
-- was answered with it
abbrev pub IsAccessTo : List ℕ → Kind → PlainArray → Act → PlainAnswer → Type 0
IsAccessTo local kind.Set v act answer = (act ≡ Set local v) × (answer ≡ granted)
IsAccessTo local kind.Use v act answer = (act ≡ Use local) × (answer ≡ value v)

-- the entry is an access on the offer: its party's, on its local name
abbrev pub IsAccessOn : Standing → PlainEntry → GrantedAccess → Type 0
IsAccessOn offer e access = (e.party ≡ offer.party) × IsAccessTo offer.local access.kind access.value e.act e.answer

-- none of the entries is an access on the offer
abbrev pub HasNoAccess : Standing → Entries → Type 0
HasNoAccess offer entries = All (λ e. (access : GrantedAccess) → ¬ IsAccessOn offer e access) entries

-- the accesses on an offer are granted sets and answered uses of its party on its local name
abbrev pub AccessesAreSetsAndUses : Type 0
AccessesAreSetsAndUses = (offer : Standing) (e : PlainEntry) (access : GrantedAccess) → (access_on offer e ≡ Some access) ↔ IsAccessOn offer e access

-- the known value of an offer is the value of the last access on it that follows its entry
abbrev pub KnownIsTheLastAccess : Type 0
KnownIsTheLastAccess =
    (offer : Standing) (before : Entries) (offered : PlainEntry) (between : Entries) (e : PlainEntry) (later : Entries) (access : GrantedAccess) →
    offer.place ≡ next_place before → IsAccessOn offer e access → HasNoAccess offer later →
    known (later ++ e ∷ (between ++ offered ∷ before)) offer ≡ Some access.value

-- where none follows, it is the value that the offer's entry hands in
abbrev pub KnownIsHandedIn : Type 0
KnownIsHandedIn =
    (offer : Standing) (before : Entries) (offered : PlainEntry) (later : Entries) →
    offer.place ≡ next_place before → HasNoAccess offer later → known (later ++ offered ∷ before) offer ≡ handed_in offered.act

-- the offer of a side
abbrev pub offer_on : Coupling → Side → Standing
offer_on coupling A = coupling.a
offer_on coupling B = coupling.b

-- the accesses that an entry makes on the two sides of a coupling
abbrev pub accesses_of : Coupling → PlainEntry → Story PlainArray
accesses_of coupling e = story_part A (access_on coupling.a e) ++ story_part B (access_on coupling.b e)

-- they are those that it makes on the offer of their side
abbrev pub SidesAreOffers : Type 0
SidesAreOffers =
    (coupling : Coupling) (e : PlainEntry) (access : Access PlainArray) →
    Contains (accesses_of coupling e) access ↔ IsAccessOn (offer_on coupling access.side) e (record { kind = access.kind; value = access.value })

-- none of the entries opens the offer, each asked of those before it
abbrev pub OpensNever : Standing → Entries → Entries → Type 0
OpensNever offer later before =
    (newer : Entries) (e : PlainEntry) (older : Entries) → later ≡ newer ++ e ∷ older → ¬ IsTrue (opens_at e (older ++ before) offer)

-- the coupling of the offer at a place ends by an entry: the pair was one of the couplings before it, and is none after
-- it, since the partner's offer stands no longer
pub record CouplingEnds (e : PlainEntry) (before : Entries) (offer : Standing) : Type 0 where
  pub made : Made
  pub coupled : Contains (couplings before) made
  pub here : IsTrue (has_place offer.place made)
  pub ended : ¬ IsTrue (both_stand (standing (e ∷ before)) made.pair)

-- in a legal journal an offer that stands opens at its own entry, and where its coupling ends
abbrev pub OffersOpenWhereCouplingsEnd : Type 0
OffersOpenWhereCouplingsEnd =
    (users : List ℕ) (before : Entries) (e : PlainEntry) (offer : Standing) → IsLegal users (e ∷ before) → Contains (standing (e ∷ before)) offer →
    IsTrue (opens_at e before offer) ↔ ((offer.place ≡ next_place before) ⊎ CouplingEnds e before offer)

-- the story of an offer since it last opened: on top of the value that was known then, the accesses since, newest first
abbrev pub OpeningIsKnownAndAccesses : Type 0
OpeningIsKnownAndAccesses =
    (side : Side) (offer : Standing) (before : Entries) (e : PlainEntry) (later : Entries) →
    IsTrue (opens_at e before offer) → OpensNever offer later (e ∷ before) →
    opening side (later ++ e ∷ before) offer ≡
    flat_map (λ after. story_part side (access_on offer after)) later ++ first_set side (known (e ∷ before) offer)

-- the story of a coupling: on top of the giver's up to the entry that made it, the accesses since, newest first
abbrev pub StoryIsOpeningAndAccesses : Type 0
StoryIsOpeningAndAccesses =
    (coupling : Coupling) (before : Entries) (later : Entries) → 0 < length before → coupling.at ≡ length before →
    story (later ++ before) coupling ≡
    flat_map (accesses_of coupling) later ++ giver_story before coupling (known before coupling.a)

-- the giver is A where A knows a value, else B
abbrev pub GiverKnows : Type 0
GiverKnows =
    (before : Entries) (coupling : Coupling) →
    (IsTrue (is_some (known before coupling.a)) → giver_story before coupling (known before coupling.a) ≡ opening A before coupling.a)
    × (known before coupling.a ≡ None → giver_story before coupling (known before coupling.a) ≡ opening B before coupling.b)

-- a set by this side is unseen
abbrev pub unseen_by : Side → AccessState
unseen_by A = UnseenA
unseen_by B = UnseenB

-- the last value set in a story is the one that is known, if one is, and it is unseen
pub record TellsWhatIsKnown (side : Side) (told : Story PlainArray) (known : Option PlainArray) : Type 0 where
  pub last : last_value told ≡ known
  pub state : state_of_story told ≡ (if is_some known then unseen_by side else Quiet)

-- in a legal journal the story of an open offer tells what is known
abbrev pub OpenOffersTellWhatIsKnown : Type 0
OpenOffersTellWhatIsKnown =
    (users : List ℕ) (journal : Entries) → IsLegal users journal → (side : Side) (offer : Standing) → Contains (open_offers journal) offer →
    TellsWhatIsKnown side (opening side journal offer) (known journal offer)

-- a use that got a value got what it finds: of a coupled offer the last value set, else the known one
abbrev pub UsesGetWhatTheyFind : Type 0
UsesGetWhatTheyFind =
    (users : List ℕ) (journal : Entries) (e : PlainEntry) (offer : Standing) (v : PlainArray) → IsLegal users (e ∷ journal) → Contains (standing journal) offer →
    access_on offer e ≡ Some (record { kind = kind.Use; value = v }) → value_for journal offer (coupling_now journal offer.place) ≡ Some v

-- the state at coupling, by what the sides know: a set by the giver is unseen
abbrev pub state_at_coupling : Option PlainArray → Option PlainArray → AccessState
state_at_coupling (Some of_a) of_b = UnseenA
state_at_coupling None (Some of_b) = UnseenB
state_at_coupling None None = Quiet

-- the story of a coupling begins with what the giver knows: A, or where A knows nothing B
pub record BeginsWithTheGivers (journal : Entries) (coupling : Coupling) : Type 0 where
  pub last : last_value (story journal coupling) ≡ option_or (known journal coupling.a) (known journal coupling.b)
  pub state : state_of_story (story journal coupling) ≡ state_at_coupling (known journal coupling.a) (known journal coupling.b)

-- in a legal journal each story does, at the entry that makes the coupling
abbrev pub StoriesBeginWithTheGivers : Type 0
StoriesBeginWithTheGivers =
    (users : List ℕ) (journal : Entries) → IsLegal users journal → (place : ℕ) (coupling : Coupling) → coupling_now journal place ≡ Some coupling →
    coupling.at ≡ length journal → BeginsWithTheGivers journal coupling

-- what fills a journal: 200,000 entries, of which leaves do not count, or entries that together weigh 4,194,304 elements
abbrev pub FullIsByEntriesOrElements : Type 0
FullIsByEntriesOrElements = (journal : Entries) → IsTrue (is_full journal) ↔ ((most_entries ≤ counted_entries journal) ⊎ (most_journal_elements ≤ held_elements journal))
