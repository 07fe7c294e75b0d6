-- The moments of a stretch, from its end back to its start.
use Rattle.std.proofs.Common.{◌≡◌, refl, sym, ap, ◌∙◌, subst, ℕ, ◌+◌, ◌<◌, ◌≤◌, Bool, true, false, not, cond, eqb, ltb, List, [], ◌∷◌, ◌++◌, length, Some, inl, inr, arith}
use Rattle.std.specs.Prelude.{Contains, is_some}
use Rattle.std.proofs.lemmas.Bool.{cases_Bool, cases_lt, both_ways, or_left, or_right, or_parts, eq-eqb, eqb-false, lt-ltb, le-ltb, not_from_false, not-true, false_from_ne_true}
use Rattle.std.proofs.lemmas.Option.{same_Some}
use Rattle.std.proofs.lemmas.List.{length-append}
use Rattle.std.proofs.lemmas.List.Elements.{All-contains, Contains-append_left}
use Rattle.std.proofs.lemmas.List.Folds.{Any-from_list_any}
use Rattle.sv_access.specs.declared.access.Side.{Side}
use Rattle.sv_access.specs.declared.access.Side.TheVariants.{A, B}
use Rattle.sv_events.specs.Entry.{PlainEntry}
use Rattle.sv_rules.specs.declared.coupling.Coupling.{Coupling}
use Rattle.sv_rules.specs.declared.coupling.Made.{Made}
use Rattle.sv_rules.specs.declared.standing.Standing.{Standing}
use Rattle.sv_rules.specs.Coupling.{both_stand, couplings, made_in, couplings_among, coupling_now, has_place, is_coupled, open_offers}
use Rattle.sv_rules.specs.Entries.{Entries, next_place}
use Rattle.sv_rules.specs.Legal.{IsLegal}
use Rattle.sv_rules.specs.Standing.{standing}
use Rattle.sv_rules.specs.Story.{coupling_ends, known, opens_at}
use Rattle.sv_offer_laws.specs.CouplingLaws.{IsCouplingOf}
use Rattle.sv_offer_laws.specs.LegalLaws.{IsInOrder, made_at}
use Rattle.sv_offer_laws.proofs.Members.{Contains-filter, Contains-from_filter, filter_passed, list_any_member}
use Rattle.sv_offer_laws.proofs.PlaceLemmas.{IsPlaceIn, places_within}
use Rattle.sv_offer_laws.proofs.LegalLemmas.{IsSound-from_legal, couplings_go_on, order_of_couplings, stood_before}
use Rattle.sv_offer_laws.proofs.LookupLemmas.{found_as_made}
use Rattle.sv_offer_laws.proofs.NowLemmas.{coupling_among, coupling_places, coupling_was, made_is_found}
use Rattle.sv_story_laws.specs.StoryLaws.{CouplingEnds, offer_on}
use Rattle.sv_story_laws.proofs.OpeningLemmas.{offers_open_where_couplings_end}
use Rattle.sv_delivery_laws.specs.Stretch.{giver_of, last_opening, StandsOrIsOpen}

-- an offer opens at its own entry, so it opened last there or later
pub opened_since_its_entry : (journal : Entries) (offer : Standing) → 1 ≤ offer.place → offer.place ≤ length journal → offer.place ≤ last_opening journal offer
opened_since_its_entry [] offer some within = omega arith
opened_since_its_entry (e ∷ journal) offer some within = elim (cases_Bool (opens_at e journal offer)) [
  | inl opens ↦ rw opens (omega arith)
  | inr stays ↦
      let other : offer.place ≡ next_place journal → ⊥ = eqb-false offer.place (next_place journal) (or_parts (eqb offer.place (next_place journal)) (coupling_ends e journal offer.place) stays).0 in
      rw stays (opened_since_its_entry journal offer some (omega (arith, within, other)))
]

-- an offer that opened last at an earlier place does not open by the newest entry
pub opened_before : (e : PlainEntry) (journal : Entries) (offer : Standing) (place : ℕ) → last_opening (e ∷ journal) offer ≤ place → place ≤ length journal →
    (opens_at e journal offer ≡ false) × (last_opening journal offer ≤ place)
opened_before e journal offer place h early = elim (cases_Bool (opens_at e journal offer)) [
  | inl opens ↦ let late : length journal + 1 ≤ place = rw opens at h in absurd (omega (arith, late))
  | inr stays ↦ (stays, rw stays at h)
]

-- an offer that did not open by the newest entry was open before it, unless an older coupling of it is there still
free_before : (users : List ℕ) (e : PlainEntry) (journal : Entries) (offer : Standing) → IsLegal users (e ∷ journal) → Contains (standing (e ∷ journal)) offer →
    opens_at e journal offer ≡ false → ((made : Made) → Contains (couplings (e ∷ journal)) made → has_place offer.place made ≡ true → made.at ≤ length journal → ⊥) →
    is_coupled (couplings journal) offer.place ≡ false
free_before users e journal offer legal has stays no_older = false_from_ne_true (is_coupled (couplings journal) offer.place) taken
  where
    after : List Standing
    after = standing (e ∷ journal)

    stands : Made → Bool
    stands made = both_stand after made.pair

    taken : is_coupled (couplings journal) offer.place ≡ true → ⊥
    taken is =
        let found = Any-from_list_any (has_place offer.place) (couplings journal) is in
        let member : Contains (couplings journal) found.1 = (found.0, found.2, found.3) in
        let order = All-contains (IsInOrder (length journal)) (couplings journal) found.1 (order_of_couplings journal (IsSound-from_legal users journal legal.1).order) member in
        elim (cases_Bool (stands found.1)) [
          | inl both ↦
              no_older found.1
              (subst (λ (ms : List Made). Contains ms found.1) (sym (couplings_go_on users journal e legal))
              (Contains-append_left (couplings_among after (couplings journal)) (made_at (next_place journal) e.made) found.1
              (Contains-filter stands (couplings journal) found.1 both member)))
              found.4 order.within
          | inr ceases ↦
              both_ways (opens_at e journal offer) stays
              ((offers_open_where_couplings_end users journal e offer legal has).1
              (inr (record { made = found.1; coupled = member; here = found.4; ended = λ both. both_ways (stands found.1) ceases both })))
        ]

-- at a moment the coupling stands, or it is still to be made and its giver's offer is open
pub data Moment (giver : Side) (coupling : Coupling) (journal : Entries) : Type 0 where
  stands : coupling.at ≤ length journal → coupling_now journal coupling.a.place ≡ Some coupling → Moment giver coupling journal
  alone : length journal < coupling.at → Contains (standing journal) (offer_on coupling giver) → is_coupled (couplings journal) (offer_on coupling giver).place ≡ false →
      Moment giver coupling journal

-- the offer of a side is one of the coupling
pub has_offer_on : (journal : Entries) (place : ℕ) (coupling : Coupling) (side : Side) → IsCouplingOf journal place coupling → Contains (standing journal) (offer_on coupling side)
has_offer_on journal place coupling A is = is.has_a
has_offer_on journal place coupling B is = is.has_b

-- the pair of a coupling
abbrev pub made_of : Coupling → Made
made_of coupling = record { pair = record { a = coupling.a.place; b = coupling.b.place }; at = coupling.at }

pub place_on : (coupling : Coupling) (side : Side) → has_place (offer_on coupling side).place (made_of coupling) ≡ true
place_on coupling A = or_left (eqb coupling.a.place coupling.a.place) (eqb coupling.b.place coupling.a.place) (eq-eqb coupling.a.place coupling.a.place refl)
place_on coupling B = or_right (eqb coupling.a.place coupling.b.place) (eqb coupling.b.place coupling.b.place) (eq-eqb coupling.b.place coupling.b.place refl)

-- where the giver's offer did not open by the newest entry, the moment before it is such a moment too
moment_before : (users : List ℕ) (e : PlainEntry) (journal : Entries) (giver : Side) (coupling : Coupling) → IsLegal users (e ∷ journal) →
    opens_at e journal (offer_on coupling giver) ≡ false → (offer_on coupling giver).place ≤ length journal → Moment giver coupling (e ∷ journal) → Moment giver coupling journal
moment_before users e journal giver coupling legal stays earlier (stands at now) = elim (cases_lt (length journal) coupling.at) [
  | inl made_now ↦
      let is = found_as_made users (e ∷ journal) legal coupling.a.place coupling now in
      let has = has_offer_on (e ∷ journal) coupling.a.place coupling giver is in
      alone made_now (stood_before e journal (offer_on coupling giver) earlier has)
      (free_before users e journal (offer_on coupling giver) legal has stays (λ made member here old.
      let first = made_is_found users (e ∷ journal) legal (offer_on coupling giver).place made member here in
      let second = made_is_found users (e ∷ journal) legal (offer_on coupling giver).place (made_of coupling) (coupling_among (e ∷ journal) coupling.a.place coupling is) (place_on coupling giver) in
      let same : made ≡ made_of coupling = same_Some made (made_of coupling) (sym first ∙ second) in
      let same_at : made.at ≡ coupling.at = ap (λ (m : Made). m.at) same in omega (arith, old, same_at, made_now)))
  | inr older ↦ stands older (coupling_was users e journal legal coupling.a.place coupling now older)
]
moment_before users e journal giver coupling legal stays earlier (alone early has free) =
    alone (omega (arith, early)) (stood_before e journal (offer_on coupling giver) earlier has)
    (free_before users e journal (offer_on coupling giver) legal has stays (λ made member here old.
    both_ways (is_coupled (couplings (e ∷ journal)) (offer_on coupling giver).place) free
    (list_any_member (has_place (offer_on coupling giver).place) (couplings (e ∷ journal)) made here member)))

-- a moment of a stretch that begins at a place: nothing has opened the giver's offer since, and the giver is the coupling's
pub record Point (giver : Side) (coupling : Coupling) (start : ℕ) (journal : Entries) : Type 0 where
  pub moment : Moment giver coupling journal
  pub opened : last_opening journal (offer_on coupling giver) ≤ start
  pub gives : coupling.at ≤ length journal → giver_of journal coupling ≡ giver

-- the giver is told at the entry that made the coupling
giver_before : (e : PlainEntry) (journal : Entries) (coupling : Coupling) (giver : Side) → giver_of (e ∷ journal) coupling ≡ giver → coupling.at ≤ length journal → giver_of journal coupling ≡ giver
giver_before e journal coupling giver is early =
    let later : ltb coupling.at (length journal + 1) ≡ true = lt-ltb coupling.at (length journal + 1) (omega arith) in rw (later, giver_of) at is

pub giver_at : (e : PlainEntry) (journal : Entries) (coupling : Coupling) (giver : Side) → giver_of (e ∷ journal) coupling ≡ giver → length journal < coupling.at →
    cond (is_some (known (e ∷ journal) coupling.a)) A B ≡ giver
giver_at e journal coupling giver is early =
    let now : ltb coupling.at (length journal + 1) ≡ false = le-ltb coupling.at (length journal + 1) (omega arith) in rw (now, giver_of) at is

pub point_before : (users : List ℕ) (e : PlainEntry) (journal : Entries) (giver : Side) (coupling : Coupling) (start : ℕ) → IsLegal users (e ∷ journal) →
    (offer_on coupling giver).place ≤ start → start ≤ length journal → Point giver coupling start (e ∷ journal) →
    (opens_at e journal (offer_on coupling giver) ≡ false) × Point giver coupling start journal
point_before users e journal giver coupling start legal place early point =
    let opened = opened_before e journal (offer_on coupling giver) start point.opened early in (
      opened.0,
      record {
        moment = moment_before users e journal giver coupling legal opened.0 (omega (arith, place, early)) point.moment;
        opened = opened.1;
        gives = λ older. giver_before e journal coupling giver (point.gives (omega (arith, older))) older;
      },
    )

-- so each moment back to the start of the stretch is one
pub points : (users : List ℕ) (later journal : Entries) (giver : Side) (coupling : Coupling) (start : ℕ) → IsLegal users (later ++ journal) →
    (offer_on coupling giver).place ≤ start → start ≤ length journal → Point giver coupling start (later ++ journal) → Point giver coupling start journal
points users [] journal giver coupling start legal place early point = point
points users (e ∷ later) journal giver coupling start legal place early point =
    points users later journal giver coupling start legal.1 place early
    (point_before users e (later ++ journal) giver coupling start legal place (omega (arith, early, length-append later journal)) point).1

-- an offer that stands and is in no coupling is open
pub is_open : (journal : Entries) (offer : Standing) → Contains (standing journal) offer → is_coupled (couplings journal) offer.place ≡ false → Contains (open_offers journal) offer
is_open journal offer has free =
    Contains-filter (λ (o : Standing). not (is_coupled (couplings journal) o.place)) (standing journal) offer (not_from_false (is_coupled (couplings journal) offer.place) free) has

-- it is as the definitions say
pub stands_or_is_open : (giver : Side) (coupling : Coupling) (journal : Entries) → Moment giver coupling journal → StandsOrIsOpen giver journal coupling
stands_or_is_open giver coupling journal (stands at now) = inl now
stands_or_is_open giver coupling journal (alone early has free) = inr (early, is_open journal (offer_on coupling giver) has free)

-- an offer opened last at a place of the journal
pub opened_within : (journal : Entries) (offer : Standing) → last_opening journal offer ≤ length journal
opened_within [] offer = omega arith
opened_within (e ∷ journal) offer = elim (cases_Bool (opens_at e journal offer)) [
  | inl opens ↦ rw opens (omega arith)
  | inr stays ↦ rw stays (omega (arith, opened_within journal offer))
]

-- at such a moment the giver's offer stands
stands_then : (users : List ℕ) (journal : Entries) (giver : Side) (coupling : Coupling) → IsLegal users journal → StandsOrIsOpen giver journal coupling → Contains (standing journal) (offer_on coupling giver)
stands_then users journal giver coupling legal (inl now) = has_offer_on journal coupling.a.place coupling giver (found_as_made users journal legal coupling.a.place coupling now)
stands_then users journal giver coupling legal (inr lone) =
    Contains-from_filter (λ (o : Standing). not (is_coupled (couplings journal) o.place)) (standing journal) (offer_on coupling giver) lone.1

-- an entry between two such moments does not open it
opens_not_between : (users : List ℕ) (e : PlainEntry) (journal : Entries) (giver : Side) (coupling : Coupling) → IsLegal users (e ∷ journal) →
    StandsOrIsOpen giver (e ∷ journal) coupling → StandsOrIsOpen giver journal coupling → opens_at e journal (offer_on coupling giver) ≡ false
opens_not_between users e journal giver coupling legal now before = false_from_ne_true (opens_at e journal (offer_on coupling giver)) opens_not
  where
    offer : Standing
    offer = offer_on coupling giver

    within : offer.place ≤ length journal
    within = (All-contains (IsPlaceIn (length journal)) (standing journal) offer (places_within journal) (stands_then users journal giver coupling legal.1 before)).1

    keeps : StandsOrIsOpen giver (e ∷ journal) coupling → StandsOrIsOpen giver journal coupling → CouplingEnds e journal offer → ⊥
    keeps now (inr lone) ending =
        both_ways (is_coupled (couplings journal) offer.place)
        (not-true (is_coupled (couplings journal) offer.place) (filter_passed (λ (o : Standing). not (is_coupled (couplings journal) o.place)) (standing journal) offer lone.1))
        (list_any_member (has_place offer.place) (couplings journal) ending.made ending.here ending.coupled)
    keeps (inr early) (inl was) ending =
        let is = found_as_made users journal legal.1 coupling.a.place coupling was in
        let places = coupling_places users journal legal.1 coupling.a.place coupling is in omega (arith, places.1, early.0)
    keeps (inl still) (inl was) ending =
        let is = found_as_made users journal legal.1 coupling.a.place coupling was in
        let is_still = found_as_made users (e ∷ journal) legal coupling.a.place coupling still in
        let first = made_is_found users journal legal.1 offer.place ending.made ending.coupled ending.here in
        let second = made_is_found users journal legal.1 offer.place (made_of coupling) (coupling_among journal coupling.a.place coupling is) (place_on coupling giver) in
        let same : ending.made ≡ made_of coupling = same_Some ending.made (made_of coupling) (sym first ∙ second) in
        let stand : Made → Bool = λ (m : Made). both_stand (standing (e ∷ journal)) m.pair in
        ending.ended (ap stand same ∙ filter_passed stand (made_in (e ∷ journal)) (made_of coupling) (coupling_among (e ∷ journal) coupling.a.place coupling is_still))

    opens_not : opens_at e journal offer ≡ true → ⊥
    opens_not opens = elim ((offers_open_where_couplings_end users journal e offer legal (stands_then users (e ∷ journal) giver coupling legal now)).0 opens) [
      | inl new ↦ omega (arith, within, new)
      | inr ending ↦ keeps now before ending
    ]

-- so none of the entries between such moments does
pub opened_by_the_start : (users : List ℕ) (entries before : Entries) (giver : Side) (coupling : Coupling) → IsLegal users (entries ++ before) →
    ((newer older : Entries) → entries ≡ newer ++ older → StandsOrIsOpen giver (older ++ before) coupling) → last_opening (entries ++ before) (offer_on coupling giver) ≤ length before
opened_by_the_start users [] before giver coupling legal moments = opened_within before (offer_on coupling giver)
opened_by_the_start users (e ∷ entries) before giver coupling legal moments =
    let stays = opens_not_between users e (entries ++ before) giver coupling legal (moments [] (e ∷ entries) refl) (moments (e ∷ []) entries refl) in
    rw stays
    (opened_by_the_start users entries before giver coupling legal.1 (λ newer older same. moments (e ∷ newer) older (ap (λ (es : Entries). e ∷ es) same)))
