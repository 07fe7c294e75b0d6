-- What becomes of a control that is set, and of each question.
use Rattle.std.proofs.Common.{◌≡◌, refl, sym, ap, ◌∙◌, ℕ, ◌≤◌, Bool, true, false, not, eqb, List, [], ◌∷◌, filter, length, map, Option, Some, None, inl, inr}
use Rattle.std.specs.Prelude.{Contains, if◌then◌else◌}
use Rattle.std.proofs.lemmas.Bool.{cases_Bool, eq-eqb, eqb-false, eqb-true, ne_eqb}
use Rattle.std.proofs.lemmas.List.Elements.{All-cons, All-contains, All-nil}
use Rattle.std.proofs.lemmas.List.Kept.{AllPairs-filter}
use Rattle.sv_access.specs.Control.{combined}
use Rattle.sv_access.specs.declared.control.Control.{Control}
use Rattle.sv_events.specs.Answer.{degree, names, parties, vector}
use Rattle.sv_events.specs.Entry.{PlainEntry}
use Rattle.sv_events.specs.Row.{act_row}
use Rattle.sv_events.specs.declared.event.Act.{Act}
use Rattle.sv_events.specs.declared.event.Act.TheVariants.{AskControl, AskDegree, AskNames, AskParties, AskState, SetControl}
use Rattle.sv_rules.specs.Control.{control_in_force, control_on, control_to, in_force_with, partners_vector, state_vector_of, state_vector, vector_of}
use Rattle.sv_rules.specs.Coupling.{coupling_at, coupling_now, couplings, degree_at, is_coupled, open_offers, open_to}
use Rattle.sv_rules.specs.Entries.{Entries, kind_of, next_place}
use Rattle.sv_rules.specs.Legal.{IsLegal}
use Rattle.sv_rules.specs.Outcome.{ActOutcome, answer_only, control_answer, outcome}
use Rattle.sv_rules.specs.Questions.{degree_of, names_to, parties_to}
use Rattle.sv_rules.specs.Standing.{own_offer, standing, standing_after}
use Rattle.sv_rules.specs.declared.coupling.Coupling.{Coupling}
use Rattle.sv_rules.specs.declared.coupling.Made.{Made}
use Rattle.sv_rules.specs.declared.standing.Standing.{Standing}
use Rattle.sv_offer_laws.specs.CouplingLaws.{IsCouplingOf}
use Rattle.sv_offer_laws.specs.OfferLaws.{IsOwn}
use Rattle.sv_offer_laws.proofs.LookupLemmas.{found_as_made}
use Rattle.sv_offer_laws.proofs.Members.{Contains-filter, Contains-from_filter, filter_passed}
use Rattle.sv_offer_laws.proofs.NowLemmas.{partners_differ}
use Rattle.sv_offer_laws.proofs.OfferLemmas.{answer_is, couplings_stay, degree_is, made_is, own_is}
use Rattle.sv_offer_laws.proofs.PlaceLemmas.{ComesBefore, IsPlaceIn, places_ascend, places_within, same_by_place}
use Rattle.sv_story_laws.specs.QuestionLaws.{AreNamesOf, AreParties, IsMadeTo, TellsControl, TellsDegree, TellsState}
use Rattle.sv_story_laws.proofs.ControlLemmas.{controls_are_set_by_the_party, state_vectors_are_of_the_story, vector_at, vector_past}
use Rattle.sv_story_laws.proofs.NameLemmas.{none_found}
use Rattle.sv_story_laws.proofs.WorkLemmas.{questions_tell_parties}

-- ---- a control

-- an entry of another party leaves the vector of an offer
vector_stays : (e : PlainEntry) (journal : Entries) (offer : Standing) → offer.place ≤ length journal → (e.party ≡ offer.party → ⊥) → vector_of (e ∷ journal) offer ≡ vector_of journal offer
vector_stays e journal offer early apart = vector_past offer (e ∷ []) journal early (All-cons P e [] none (All-nil P))
  where
    P : PlainEntry → Type 0
    P f = control_on offer f ≡ None

    none : control_on offer e ≡ None
    none = ap (λ (b : Bool). if b then control_to offer.local (act_row e.act).row.controls else None) (ne_eqb e.party offer.party apart)

-- a standing offer is at a place of the journal
within : (journal : Entries) (offer : Standing) → Contains (standing journal) offer → offer.place ≤ length journal
within journal offer has = (All-contains (IsPlaceIn (length journal)) (standing journal) offer (places_within journal) has).1

-- an entry of the offer's party leaves the vector of its partner
partner_stays : (users : List ℕ) (journal : Entries) (e : PlainEntry) → IsLegal users journal → (offer : Standing) → Contains (standing journal) offer → e.party ≡ offer.party →
    (c : Option Coupling) → coupling_now journal offer.place ≡ c → partners_vector (e ∷ journal) offer.place c ≡ partners_vector journal offer.place c
partner_stays users journal e legal offer has own None now = refl
partner_stays users journal e legal offer has own (Some coupling) now = elim (cases_Bool (eqb coupling.a.place offer.place)) [
  | inl low ↦ by_b low
  | inr not_low ↦ by_a not_low
]
  where
    is : IsCouplingOf journal offer.place coupling
    is = found_as_made users journal legal offer.place coupling now

    apart : coupling.a.party ≡ coupling.b.party → ⊥
    apart = partners_differ users journal legal offer.place coupling is

    one : (other : Standing) → Contains (standing journal) other → other.place ≡ offer.place → other ≡ offer
    one other there same = same_by_place (standing journal) other offer (places_ascend journal) there has same

    by_b : eqb coupling.a.place offer.place ≡ true → partners_vector (e ∷ journal) offer.place (Some coupling) ≡ partners_vector journal offer.place (Some coupling)
    by_b low =
        let mine = one coupling.a is.has_a (eqb-true coupling.a.place offer.place low) in
        ap (λ (b : Bool). vector_of (e ∷ journal) (if b then coupling.b else coupling.a)) low
        ∙ vector_stays e journal coupling.b (within journal coupling.b is.has_b) (λ same. apart (ap (λ (o : Standing). o.party) mine ∙ sym own ∙ same))
        ∙ sym (ap (λ (b : Bool). vector_of journal (if b then coupling.b else coupling.a)) low)

    high : eqb coupling.a.place offer.place ≡ false → coupling.b.place ≡ offer.place
    high not_low = elim is.here [
      | inl low ↦ absurd (eqb-false coupling.a.place offer.place not_low low)
      | inr here ↦ here
    ]

    by_a : eqb coupling.a.place offer.place ≡ false → partners_vector (e ∷ journal) offer.place (Some coupling) ≡ partners_vector journal offer.place (Some coupling)
    by_a not_low =
        let mine = one coupling.b is.has_b (high not_low) in
        ap (λ (b : Bool). vector_of (e ∷ journal) (if b then coupling.b else coupling.a)) not_low
        ∙ vector_stays e journal coupling.a (within journal coupling.a is.has_a) (λ same. apart (sym same ∙ own ∙ sym (ap (λ (o : Standing). o.party) mine)))
        ∙ sym (ap (λ (b : Bool). vector_of journal (if b then coupling.b else coupling.a)) not_low)

pub controls_are_answered : (users : List ℕ) (journal : Entries) (e : PlainEntry) → IsLegal users (e ∷ journal) → (local : List ℕ) (control : Control) → e.act ≡ SetControl local control → (offer : Standing) → IsOwn journal e.party local offer →
    e.answer ≡ vector (control_in_force (e ∷ journal) (Some offer))
controls_are_answered users journal e legal local control is offer own = answer_is users journal e legal (SetControl local control) is (answer_only (control_answer journal control (Some offer))) out ∙ ap vector (sym after)
  where
    out : outcome journal e.party (SetControl local control) ≡ answer_only (control_answer journal control (Some offer))
    out = ap (λ (o : Option Standing). answer_only (control_answer journal control o)) (own_is journal e.party local offer own)

    sets : control_on offer e ≡ Some control
    sets = (controls_are_set_by_the_party offer e control).1 (sym own.own, is ∙ ap (λ (n : List ℕ). SetControl n control) (sym own.named))

    same : standing (e ∷ journal) ≡ standing journal
    same = ap (λ (act : Act). standing_after (standing journal) (next_place journal) e.party (kind_of e.answer) (act_row act).row) is

    coupled : couplings (e ∷ journal) ≡ couplings journal
    coupled = couplings_stay journal e same (made_is users journal e legal (SetControl local control) is (answer_only (control_answer journal control (Some offer))) out)

    stays : coupling_now (e ∷ journal) offer.place ≡ coupling_now journal offer.place
    stays = ap (λ (os : List Standing). coupling_at os (couplings (e ∷ journal)) offer.place) same ∙ ap (λ (ms : List Made). coupling_at (standing journal) ms offer.place) coupled

    after : control_in_force (e ∷ journal) (Some offer) ≡ in_force_with journal control offer
    after =
        ap (λ (v : Control). combined v (partners_vector (e ∷ journal) offer.place (coupling_now (e ∷ journal) offer.place))) (vector_at offer e journal control (within journal offer own.stands) sets)
        ∙ ap (λ (c : Option Coupling). combined control (partners_vector (e ∷ journal) offer.place c)) stays
        ∙ ap (combined control) (partner_stays users journal e legal.1 offer own.stands (sym own.own) (coupling_now journal offer.place) refl)

-- ---- questions on a name

-- by the offer of the party that asks, if it has one
asks : (users : List ℕ) (journal : Entries) (e : PlainEntry) → IsLegal users (e ∷ journal) → (act : Act) → e.act ≡ act → (becomes : Option Standing → ActOutcome) → (local : List ℕ) →
    outcome journal e.party act ≡ becomes (own_offer (standing journal) e.party local) → (found : Option Standing) → own_offer (standing journal) e.party local ≡ found → e.answer ≡ (becomes found).answer
asks users journal e legal act is becomes local out found own = answer_is users journal e legal act is (becomes found) (out ∙ ap becomes own)

pub tells_control : (users : List ℕ) (journal : Entries) (e : PlainEntry) → IsLegal users (e ∷ journal) → (local : List ℕ) → e.act ≡ AskControl local → TellsControl journal e local
tells_control users journal e legal local is = record {
  stands = λ offer own. told (Some offer) (own_is journal e.party local offer own);
  none = λ none. told None ((none_found journal e.party local).1 none);
}
  where
    becomes : Option Standing → ActOutcome
    becomes found = answer_only (vector (control_in_force journal found))

    told : (found : Option Standing) → own_offer (standing journal) e.party local ≡ found → e.answer ≡ vector (control_in_force journal found)
    told found own = asks users journal e legal (AskControl local) is becomes local refl found own

pub tells_state : (users : List ℕ) (journal : Entries) (e : PlainEntry) → IsLegal users (e ∷ journal) → (local : List ℕ) → e.act ≡ AskState local → TellsState journal e local
tells_state users journal e legal local is = record {
  coupled = λ offer own coupling now.
      told (Some offer) (own_is journal e.party local offer own) ∙ ap (λ (c : Option Coupling). vector (state_vector_of journal offer.place c)) now ∙ ap vector (state_vectors_are_of_the_story journal offer.place coupling);
  alone = λ offer own now. told (Some offer) (own_is journal e.party local offer own) ∙ ap (λ (c : Option Coupling). vector (state_vector_of journal offer.place c)) now;
  none = λ none. told None ((none_found journal e.party local).1 none);
}
  where
    becomes : Option Standing → ActOutcome
    becomes found = answer_only (vector (state_vector journal found))

    told : (found : Option Standing) → own_offer (standing journal) e.party local ≡ found → e.answer ≡ vector (state_vector journal found)
    told found own = asks users journal e legal (AskState local) is becomes local refl found own

pub tells_degree : (users : List ℕ) (journal : Entries) (e : PlainEntry) → IsLegal users (e ∷ journal) → (local : List ℕ) → e.act ≡ AskDegree local → TellsDegree journal e local
tells_degree users journal e legal local is = record {
  stands = λ offer own. (degree_at (couplings journal) offer.place, told (Some offer) (own_is journal e.party local offer own), degree_is journal offer);
  none = λ none. told None ((none_found journal e.party local).1 none);
}
  where
    becomes : Option Standing → ActOutcome
    becomes found = answer_only (degree (degree_of journal found))

    told : (found : Option Standing) → own_offer (standing journal) e.party local ≡ found → e.answer ≡ degree (degree_of journal found)
    told found own = asks users journal e legal (AskDegree local) is becomes local refl found own

-- ---- questions for parties and names

-- which offers are open and made to a party
made_to_parts : (journal : Entries) (to : ℕ) (offer : Standing) → Contains (open_to journal to) offer → IsMadeTo journal to offer.party offer
made_to_parts journal to offer has =
    let is_to : Standing → Bool = λ (o : Standing). eqb o.to to in
    let is_open : Standing → Bool = λ (o : Standing). not (is_coupled (couplings journal) o.place) in
    let opened = Contains-from_filter is_to (open_offers journal) offer has in
    record {
      stands = Contains-from_filter is_open (standing journal) offer opened;
      open_still = filter_passed is_open (standing journal) offer opened;
      made_to = eqb-true offer.to to (filter_passed is_to (open_offers journal) offer has);
      made_by = refl;
    }

has_made_to : (journal : Entries) (to from : ℕ) (offer : Standing) → IsMadeTo journal to from offer → Contains (open_to journal to) offer
has_made_to journal to from offer is =
    Contains-filter (λ (o : Standing). eqb o.to to) (open_offers journal) offer (eq-eqb offer.to to is.made_to)
    (Contains-filter (λ (o : Standing). not (is_coupled (couplings journal) o.place)) (standing journal) offer is.open_still is.stands)

-- by another number that is the same
made_by : (journal : Entries) (to from : ℕ) (offer : Standing) → offer.party ≡ from → IsMadeTo journal to offer.party offer → IsMadeTo journal to from offer
made_by journal to from offer same is = record { stands = is.stands; open_still = is.open_still; made_to = is.made_to; made_by = same }

pub tells_parties : (users : List ℕ) (journal : Entries) (e : PlainEntry) → IsLegal users (e ∷ journal) → e.act ≡ AskParties → (numbers : List ℕ) × (e.answer ≡ parties numbers) × AreParties journal e.party numbers
tells_parties users journal e legal is =
    let tells = questions_tell_parties journal e.party in (
      parties_to journal e.party,
      answer_is users journal e legal AskParties is (answer_only (parties (parties_to journal e.party))) refl,
      record {
        ascend = tells.ascend;
        those = λ from. (
          (λ h. let w = (tells.those from).0 h in (w.0, made_by journal e.party from w.0 w.2 (made_to_parts journal e.party w.0 w.1))),
          (λ w. (tells.those from).1 (w.0, has_made_to journal e.party from w.0 w.1, w.1.made_by)),
        );
      },
    )

pub tells_names : (users : List ℕ) (journal : Entries) (e : PlainEntry) → IsLegal users (e ∷ journal) → (from : ℕ) → e.act ≡ AskNames from →
    (offers : List Standing) × (e.answer ≡ names (map (λ offer. offer.surrogate) offers)) × AreNamesOf journal e.party from offers
tells_names users journal e legal from is = (
  filter is_by (open_to journal e.party),
  answer_is users journal e legal (AskNames from) is (answer_only (names (names_to journal from e.party))) refl,
  record {
    by_place =
        AllPairs-filter ComesBefore is_by (open_to journal e.party)
        (AllPairs-filter ComesBefore (λ (o : Standing). eqb o.to e.party) (open_offers journal)
        (AllPairs-filter ComesBefore (λ (o : Standing). not (is_coupled (couplings journal) o.place)) (standing journal) (places_ascend journal)));
    those = λ offer. (
      (λ has. made_by journal e.party from offer (eqb-true offer.party from (filter_passed is_by (open_to journal e.party) offer has))
          (made_to_parts journal e.party offer (Contains-from_filter is_by (open_to journal e.party) offer has))),
      (λ made. Contains-filter is_by (open_to journal e.party) offer (eq-eqb offer.party from made.made_by) (has_made_to journal e.party from offer made)),
    );
  },
)
  where
    is_by : Standing → Bool
    is_by o = eqb o.party from
