-- What becomes of offers and retractions, by what stands.
use Rattle.std.proofs.Common.{◌≡◌, refl, sym, ap, ap₂, ◌∙◌, ℕ, ◌+◌, ◌≤◌, ◌<◌, Bool, true, false, leb, List, [], ◌∷◌, ◌++◌, filter, length, map, Option, Some, None, arith}
use Rattle.std.specs.Prelude.{Contains, if◌then◌else◌}
use Rattle.std.specs.List.{list_any}
use Rattle.std.proofs.lemmas.Bool.{false_from_ne_true, leb-false, leb-true, lt-ltb, or_from}
use Rattle.std.proofs.lemmas.List.{append-nil}
use Rattle.std.proofs.lemmas.List.Elements.{All-contains}
use Rattle.apl_arrays.specs.Array.{PlainArray}
use Rattle.sv_events.specs.Answer.{degree, kept, offer_limit}
use Rattle.sv_events.specs.Entry.{PlainEntry}
use Rattle.sv_events.specs.declared.entry.Pair.{Pair}
use Rattle.sv_events.specs.declared.event.Act.{Act}
use Rattle.sv_events.specs.declared.event.Act.TheVariants.{Offer, Retract}
use Rattle.sv_rules.specs.declared.coupling.Made.{Made}
use Rattle.sv_rules.specs.declared.standing.Standing.{Standing}
use Rattle.sv_rules.specs.Coupling.{both_stand, couplings, degree_at, has_place, is_open_match, made_in, open_match, pair_of}
use Rattle.sv_rules.specs.Entries.{Entries, next_place}
use Rattle.sv_rules.specs.Legal.{IsLegal}
use Rattle.sv_rules.specs.Outcome.{ActOutcome, answer_only, joined_to, new_offer, offer_outcome, outcome, retraction_outcome}
use Rattle.sv_rules.specs.Standing.{standing, offer_count, own_offer}
use Rattle.sv_rules.specs.Story.{known}
use Rattle.sv_offer_laws.specs.OfferLaws.{HasDegree, IsNewlyAnswered, IsOwn, matched, offered, past_limit, pair_of_places, unmatched}
use Rattle.sv_offer_laws.proofs.CouplingLemmas.{none_is_taken_of_none, oldest_match_is_taken}
use Rattle.sv_offer_laws.proofs.LegalLemmas.{IsSound-from_legal}
use Rattle.sv_offer_laws.proofs.Members.{Contains-behind, Contains-head, list_any_member}
use Rattle.sv_offer_laws.proofs.OwnLemmas.{own_offer-is}
use Rattle.sv_offer_laws.proofs.PlaceLemmas.{IsPlaceIn, places_within}

-- where nothing that is there passes, none does
none_any : {X : Type 0} (p : X → Bool) (xs : List X) → ((x : X) → Contains xs x → p x ≡ true → ⊥) → list_any p xs ≡ false
none_any p [] none = refl
none_any p (x ∷ xs) none = or_from (p x) (list_any p xs) (false_from_ne_true (p x) (none x (Contains-head x xs))) (none_any p xs (λ y has. none y (Contains-behind x xs y has)))

-- a degree, by whether the offer is coupled
abbrev degree_if : Bool → ℕ
degree_if coupled = if coupled then 2 else 1

pub degree_is : (journal : Entries) (offer : Standing) → HasDegree journal offer (degree_at (couplings journal) offer.place)
degree_is journal offer = record {
  coupled = λ made has here. ap degree_if (list_any_member (has_place offer.place) (couplings journal) made here has);
  alone = λ none. ap degree_if (none_any (has_place offer.place) (couplings journal) none);
}

-- the party's own offer is found
pub own_is : (journal : Entries) (party : ℕ) (local : List ℕ) (offer : Standing) → IsOwn journal party local offer → own_offer (standing journal) party local ≡ Some offer
own_is journal party local offer is = ap₂ (own_offer (standing journal)) (sym is.own) (sym is.named) ∙ own_offer-is journal offer is.stands

-- what becomes of an act in a legal journal
pub answer_is : (users : List ℕ) (journal : Entries) (e : PlainEntry) → IsLegal users (e ∷ journal) → (act : Act) → e.act ≡ act → (becomes : ActOutcome) → outcome journal e.party act ≡ becomes → e.answer ≡ becomes.answer
answer_is users journal e legal act is becomes out = legal.0.answer ∙ ap (λ (a : Act). (outcome journal e.party a).answer) is ∙ ap (λ (o : ActOutcome). o.answer) out

pub made_is : (users : List ℕ) (journal : Entries) (e : PlainEntry) → IsLegal users (e ∷ journal) → (act : Act) → e.act ≡ act → (becomes : ActOutcome) → outcome journal e.party act ≡ becomes → e.made ≡ becomes.made
made_is users journal e legal act is becomes out = legal.0.made ∙ ap (λ (a : Act). (outcome journal e.party a).made) is ∙ ap (λ (o : ActOutcome). o.made) out

pub offers_again_tell_their_degree : (users : List ℕ) (journal : Entries) (e : PlainEntry) → IsLegal users (e ∷ journal) → (to : ℕ) (local surrogate : List ℕ) (handed : Option PlainArray) → e.act ≡ Offer to local surrogate handed →
    (offer : Standing) → IsOwn journal e.party local offer → (d : ℕ) × (e.answer ≡ degree d) × (e.made ≡ []) × HasDegree journal offer d
offers_again_tell_their_degree users journal e legal to local surrogate handed is offer own = (
  degree_at (couplings journal) offer.place,
  answer_is users journal e legal (Offer to local surrogate handed) is again out,
  made_is users journal e legal (Offer to local surrogate handed) is again out,
  degree_is journal offer,
)
  where
    again : ActOutcome
    again = answer_only (degree (degree_at (couplings journal) offer.place))

    out : outcome journal e.party (Offer to local surrogate handed) ≡ again
    out = ap (offer_outcome (standing journal) (couplings journal) (offered journal e.party to local surrogate)) (own_is journal e.party local offer own)

-- an entry that makes no pairs, after which the same offers stand, leaves the couplings
pub couplings_stay : (journal : Entries) (e : PlainEntry) → standing (e ∷ journal) ≡ standing journal → e.made ≡ [] → couplings (e ∷ journal) ≡ couplings journal
couplings_stay journal e same none =
    ap (λ pairs. filter (both (standing (e ∷ journal))) (made_in journal ++ map (λ pair. let m : Made = record { pair = pair; at = next_place journal } in m) pairs)) none
    ∙ ap (filter (both (standing (e ∷ journal)))) (append-nil (made_in journal))
    ∙ ap (λ offers. filter (both offers) (made_in journal)) same
  where
    both : List Standing → Made → Bool
    both offers made = both_stand offers made.pair

-- the pair of an offer and a lower one
lower_first : (match new : Standing) → match.place < new.place → pair_of match new ≡ pair_of_places match.place new.place
lower_first match new low =
    ap (λ (b : Bool). if b then pair_of_places match.place new.place else pair_of_places new.place match.place) (lt-ltb match.place new.place low)

pub new_offers_are_answered : (users : List ℕ) (journal : Entries) (e : PlainEntry) → IsLegal users (e ∷ journal) → (to : ℕ) (local surrogate : List ℕ) (handed : Option PlainArray) → e.act ≡ Offer to local surrogate handed →
    own_offer (standing journal) e.party local ≡ None → IsNewlyAnswered journal e (offered journal e.party to local surrogate)
new_offers_are_answered users journal e legal to local surrogate handed is none = by_count (leb 64 (offer_count (standing journal) e.party)) refl
  where
    new : Standing
    new = offered journal e.party to local surrogate

    act : Act
    act = Offer to local surrogate handed

    out : outcome journal e.party act ≡ new_offer (standing journal) (couplings journal) new
    out = ap (offer_outcome (standing journal) (couplings journal) new) none

    found : Option Standing
    found = open_match (standing journal) (couplings journal) new

    by_match : offer_count (standing journal) e.party < 64 → outcome journal e.party act ≡ joined_to new found → (match : Option Standing) → found ≡ match → IsNewlyAnswered journal e new
    by_match few joined None of =
        let becomes : outcome journal e.party act ≡ answer_only (degree 1) = joined ∙ ap (joined_to new) of in
        unmatched few (λ other has passes. none_is_taken_of_none (is_open_match (couplings journal) new) (standing journal) other of has passes)
        (answer_is users journal e legal act is (answer_only (degree 1)) becomes) (made_is users journal e legal act is (answer_only (degree 1)) becomes)
    by_match few joined (Some match) of =
        let oldest = oldest_match_is_taken journal (couplings journal) new match of in
        let becomes : outcome journal e.party act ≡ joined_to new (Some match) = joined ∙ ap (joined_to new) of in
        let within : match.place ≤ length journal = (All-contains (IsPlaceIn (length journal)) (standing journal) match (places_within journal) oldest.among).1 in
        let next : new.place ≡ length journal + 1 = refl in
        matched few match oldest (answer_is users journal e legal act is (joined_to new (Some match)) becomes)
        (made_is users journal e legal act is (joined_to new (Some match)) becomes ∙ ap (λ (pair : Pair). pair ∷ []) (lower_first match new (omega (arith, within, next))))

    by_count : (many : Bool) → leb 64 (offer_count (standing journal) e.party) ≡ many → IsNewlyAnswered journal e new
    by_count true many =
        let becomes : outcome journal e.party act ≡ answer_only offer_limit = out ∙ ap (λ (b : Bool). if b then answer_only offer_limit else joined_to new found) many in
        let most = (IsSound-from_legal users journal legal.1).few e.party in
        let least = leb-true 64 (offer_count (standing journal) e.party) many in
        let exact : offer_count (standing journal) e.party ≡ 64 = omega (arith, most, least) in
        past_limit exact (answer_is users journal e legal act is (answer_only offer_limit) becomes) (made_is users journal e legal act is (answer_only offer_limit) becomes)
    by_count false few =
        by_match (leb-false 64 (offer_count (standing journal) e.party) few) (out ∙ ap (λ (b : Bool). if b then answer_only offer_limit else joined_to new found) few) found refl

pub retractions_keep_what_is_known : (users : List ℕ) (journal : Entries) (e : PlainEntry) → IsLegal users (e ∷ journal) → (local : List ℕ) → e.act ≡ Retract local → (offer : Standing) → IsOwn journal e.party local offer →
    (d : ℕ) × (e.answer ≡ kept d (known journal offer)) × HasDegree journal offer d
retractions_keep_what_is_known users journal e legal local is offer own = (
  degree_at (couplings journal) offer.place,
  answer_is users journal e legal (Retract local) is (retraction_outcome journal e.party local (Some offer)) (ap (retraction_outcome journal e.party local) (own_is journal e.party local offer own)),
  degree_is journal offer,
)
