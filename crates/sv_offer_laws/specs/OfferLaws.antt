-- What offers and retractions are answered, and which pair an offer makes.
use Rattle.std.specs.Prelude.{◌≡◌, ◌<◌, ℕ, List, [], ◌∷◌, IsTrue, Contains, Option, None}
use Rattle.apl_arrays.specs.Array.{PlainArray}
use Rattle.sv_events.specs.Answer.{degree, kept, offer_limit}
use Rattle.sv_events.specs.Entry.{PlainEntry}
use Rattle.sv_events.specs.declared.entry.Pair.{Pair}
use Rattle.sv_events.specs.declared.event.Act.TheVariants.{Offer, Retract}
use Rattle.sv_rules.specs.declared.coupling.Made.{Made}
use Rattle.sv_rules.specs.declared.standing.Standing.{Standing}
use Rattle.sv_rules.specs.Coupling.{couplings, has_place, is_open_match}
use Rattle.sv_rules.specs.Entries.{Entries, next_place}
use Rattle.sv_rules.specs.Legal.{IsLegal}
use Rattle.sv_rules.specs.Standing.{standing, offer_count, own_offer}
use Rattle.sv_rules.specs.Story.{known}
use Rattle.sv_offer_laws.specs.CouplingLaws.{IsOldestOpenMatch}

-- the degree of a standing offer: 2 where a coupling has its place, else 1
pub record HasDegree (journal : Entries) (offer : Standing) (d : ℕ) : Type 0 where
  pub coupled : (made : Made) → Contains (couplings journal) made → IsTrue (has_place offer.place made) → d ≡ 2
  pub alone : ((made : Made) → Contains (couplings journal) made → ¬ IsTrue (has_place offer.place made)) → d ≡ 1

-- the offer is the party's, of this local name, and stands
pub record IsOwn (journal : Entries) (party : ℕ) (local : List ℕ) (offer : Standing) : Type 0 where
  pub stands : Contains (standing journal) offer
  pub own : offer.party ≡ party
  pub named : offer.local ≡ local

-- in a legal journal an offer of a name that stands is answered its degree, and makes no pair
abbrev pub OffersAgainTellTheirDegree : Type 0
OffersAgainTellTheirDegree =
    (users : List ℕ) (journal : Entries) (e : PlainEntry) → IsLegal users (e ∷ journal) → (to : ℕ) (local surrogate : List ℕ) (handed : Option PlainArray) → e.act ≡ Offer to local surrogate handed →
    (offer : Standing) → IsOwn journal e.party local offer → (d : ℕ) × (e.answer ≡ degree d) × (e.made ≡ []) × HasDegree journal offer d

-- the offer of a party at the next place
abbrev pub offered : Entries → ℕ → ℕ → List ℕ → List ℕ → Standing
offered journal party to local surrogate = record { place = next_place journal; party = party; to = to; local = local; surrogate = surrogate }

-- the pair of two places
abbrev pub pair_of_places : ℕ → ℕ → Pair
pair_of_places low high = record { a = low; b = high }

-- what a new offer is answered, and which pair it makes: OfferLimit and none, where its party has 64; else degree 1 and none,
-- where no standing offer is open and matches it; else degree 2, and the pair with the one of the lowest place
pub data IsNewlyAnswered (journal : Entries) (e : PlainEntry) (new : Standing) : Type 0 where
  past_limit : offer_count (standing journal) new.party ≡ 64 → e.answer ≡ offer_limit → e.made ≡ [] → IsNewlyAnswered journal e new
  unmatched : offer_count (standing journal) new.party < 64 → ((other : Standing) → Contains (standing journal) other → ¬ IsTrue (is_open_match (couplings journal) new other)) → e.answer ≡ degree 1 → e.made ≡ [] →
      IsNewlyAnswered journal e new
  matched : offer_count (standing journal) new.party < 64 → (match : Standing) → IsOldestOpenMatch (standing journal) (couplings journal) new match → e.answer ≡ degree 2 → e.made ≡ pair_of_places match.place new.place ∷ [] →
      IsNewlyAnswered journal e new

-- in a legal journal an offer of a name that does not stand is answered so
abbrev pub NewOffersAreAnswered : Type 0
NewOffersAreAnswered =
    (users : List ℕ) (journal : Entries) (e : PlainEntry) → IsLegal users (e ∷ journal) → (to : ℕ) (local surrogate : List ℕ) (handed : Option PlainArray) → e.act ≡ Offer to local surrogate handed →
    own_offer (standing journal) e.party local ≡ None → IsNewlyAnswered journal e (offered journal e.party to local surrogate)

-- in a legal journal a retraction of a name that stands is answered its degree before, and the value that its party knew
abbrev pub RetractionsKeepWhatIsKnown : Type 0
RetractionsKeepWhatIsKnown =
    (users : List ℕ) (journal : Entries) (e : PlainEntry) → IsLegal users (e ∷ journal) → (local : List ℕ) → e.act ≡ Retract local → (offer : Standing) → IsOwn journal e.party local offer →
    (d : ℕ) × (e.answer ≡ kept d (known journal offer)) × HasDegree journal offer d
