-- What the story of an open offer tells, and with what that of a coupling begins.
use Rattle.std.proofs.Common.{◌≡◌, refl, sym, ap, ◌∙◌, subst, ℕ, ◌+◌, ◌≤◌, Bool, true, false, not, eqb, ltb, List, [], ◌∷◌, ◌++◌, length, Option, Some, None, ◌⊎◌, inl, inr, arith}
use Rattle.std.specs.Prelude.{◌↔◌, Contains, IsTrue, is_some, if◌then◌else◌}
use Rattle.std.specs.Option.{option_or}
use Rattle.std.proofs.lemmas.Bool.{cases_Bool, and_parts, and_from, and_left, or_cases, or_from, or_left, or_right, not-true, not_from_false, both_ways, eq-eqb, eqb-true, eqb-false, lt-ltb}
use Rattle.std.proofs.lemmas.Option.{same_Some}
use Rattle.std.proofs.lemmas.List.Elements.{All-contains, Contains-append_left}
use Rattle.std.proofs.lemmas.List.Folds.{Any-from_list_any}
use Rattle.apl_arrays.specs.Array.{PlainArray}
use Rattle.sv_access.specs.Story.{Story, last_value, state_of_story}
use Rattle.sv_access.specs.declared.access.Side.{Side}
use Rattle.sv_access.specs.declared.access.Side.TheVariants.{A, B}
use Rattle.sv_access.specs.declared.access.Kind.{Kind}
use Rattle.sv_access.specs.declared.access.Kind.TheVariants as kind
use Rattle.sv_access.specs.declared.state.AccessState.TheVariants.{Quiet}
use Rattle.sv_access.specs.State.{state_after}
use Rattle.sv_events.specs.Entry.{PlainEntry}
use Rattle.sv_rules.specs.declared.standing.Standing.{Standing}
use Rattle.sv_rules.specs.declared.coupling.Coupling.{Coupling}
use Rattle.sv_rules.specs.declared.coupling.Made.{Made}
use Rattle.sv_rules.specs.Coupling.{made_in, both_stand, couplings, couplings_among, coupling_now, has_place, is_coupled, open_offers}
use Rattle.sv_rules.specs.Entries.{Entries, next_place}
use Rattle.sv_rules.specs.Legal.{IsLegal}
use Rattle.sv_rules.specs.Outcome.{value_for}
use Rattle.sv_rules.specs.Standing.{standing}
use Rattle.sv_rules.specs.Story.{GrantedAccess, access_on, known, known_after, coupling_ends, opens_at, opening, first_set, story_part, giver_story, story}
use Rattle.sv_offer_laws.specs.CouplingLaws.{IsCouplingOf}
use Rattle.sv_offer_laws.specs.LegalLaws.{IsInOrder, made_at}
use Rattle.sv_offer_laws.proofs.Members.{Contains-filter, Contains-from_filter, filter_passed, list_any_member}
use Rattle.sv_offer_laws.proofs.PlaceLemmas.{IsPlaceIn, places_within}
use Rattle.sv_offer_laws.proofs.LegalLemmas.{IsSound-from_legal, couplings_go_on, stood_before}
use Rattle.sv_offer_laws.proofs.LookupLemmas.{found_as_made}
use Rattle.sv_offer_laws.proofs.NowLemmas.{made_is_found, coupling_among, none_now}
use Rattle.sv_offer_laws.proofs.OpenLemmas.{open_among}
use Rattle.sv_story_laws.specs.StoryLaws.{CouplingEnds, TellsWhatIsKnown, BeginsWithTheGivers, unseen_by, state_at_coupling}
use Rattle.sv_story_laws.proofs.AnswerLemmas.{uses_get_what_they_find}
use Rattle.sv_story_laws.proofs.StoryLemmas.{story-opening}

-- the offer stands after an entry, and is open before the pairs that this makes
pub record IsOpenThen (e : PlainEntry) (journal : Entries) (offer : Standing) : Type 0 where
  pub stands : Contains (standing (e ∷ journal)) offer
  pub free : is_coupled (couplings_among (standing (e ∷ journal)) (couplings journal)) offer.place ≡ false

-- an offer that is open after an entry was open then
open_then-from_open : (users : List ℕ) (e : PlainEntry) (journal : Entries) (offer : Standing) → IsLegal users (e ∷ journal) → Contains (standing (e ∷ journal)) offer →
    is_coupled (couplings (e ∷ journal)) offer.place ≡ false → IsOpenThen e journal offer
open_then-from_open users e journal offer legal has free = record {
  stands = has;
  free = open_among (couplings_among (standing (e ∷ journal)) (couplings journal)) (made_at (next_place journal) e.made) offer.place
      (ap (λ (ms : List Made). is_coupled ms offer.place) (sym (couplings_go_on users journal e legal)) ∙ free);
}

-- an offer of an earlier place, open before
pub record WasOpen (journal : Entries) (offer : Standing) : Type 0 where
  pub earlier : offer.place ≤ length journal
  pub stood : Contains (standing journal) offer
  pub free : is_coupled (couplings journal) offer.place ≡ false

-- it opened by the entry, or was open before
opened_or_was_open : (e : PlainEntry) (journal : Entries) (offer : Standing) → IsOpenThen e journal offer → (opens_at e journal offer ≡ true) ⊎ (WasOpen journal offer × (opens_at e journal offer ≡ false))
opened_or_was_open e journal offer then' =
    let within = All-contains (IsPlaceIn (length (e ∷ journal))) (standing (e ∷ journal)) offer (places_within (e ∷ journal)) then'.stands in
    let among = is_coupled (couplings_among (standing (e ∷ journal)) (couplings journal)) offer.place in
    elim (cases_Bool (eqb offer.place (next_place journal))) [
      | inl new ↦ inl (or_left (eqb offer.place (next_place journal)) (coupling_ends e journal offer.place) new)
      | inr old ↦
          let other : offer.place ≡ next_place journal → ⊥ = eqb-false offer.place (next_place journal) old in
          let earlier : offer.place ≤ length journal = omega (arith, within.1, other) in
          elim (cases_Bool (is_coupled (couplings journal) offer.place)) [
            | inl was ↦
                inl (or_right (eqb offer.place (next_place journal)) (coupling_ends e journal offer.place)
                (and_from (is_coupled (couplings journal) offer.place) (not among) was (not_from_false among then'.free)))
            | inr free ↦
                inr (
                  record { earlier = earlier; stood = stood_before e journal offer earlier then'.stands; free = free },
                  or_from (eqb offer.place (next_place journal)) (coupling_ends e journal offer.place) old (and_left (is_coupled (couplings journal) offer.place) (not among) free),
                )
          ]
    ]

-- in a legal journal an offer opens at its own entry and where its coupling ends
pub offers_open_where_couplings_end : (users : List ℕ) (before : Entries) (e : PlainEntry) (offer : Standing) → IsLegal users (e ∷ before) → Contains (standing (e ∷ before)) offer →
    IsTrue (opens_at e before offer) ↔ ((offer.place ≡ next_place before) ⊎ CouplingEnds e before offer)
offers_open_where_couplings_end users before e offer legal has = (there, back)
  where
    after : List Standing
    after = standing (e ∷ before)

    stands : Made → Bool
    stands made = both_stand after made.pair

    was : Bool
    was = is_coupled (couplings before) offer.place

    still : Bool
    still = is_coupled (couplings_among after (couplings before)) offer.place

    there : IsTrue (opens_at e before offer) → (offer.place ≡ next_place before) ⊎ CouplingEnds e before offer
    there h = elim (or_cases (eqb offer.place (next_place before)) (coupling_ends e before offer.place) h) [
      | inl new ↦ inl (eqb-true offer.place (next_place before) new)
      | inr ends ↦
          let parts = and_parts was (not still) ends in
          let found = Any-from_list_any (has_place offer.place) (couplings before) parts.0 in
          inr (record {
            made = found.1;
            coupled = (found.0, found.2, found.3);
            here = found.4;
            ended = λ both. both_ways still (not-true still parts.1)
                (list_any_member (has_place offer.place) (couplings_among after (couplings before)) found.1 found.4
                (Contains-filter stands (couplings before) found.1 both (found.0, found.2, found.3)));
          })
    ]

    not_still : (ending : CouplingEnds e before offer) → (b : Bool) → still ≡ b → b ≡ false
    not_still ending false is = refl
    not_still ending true is =
        let found = Any-from_list_any (has_place offer.place) (couplings_among after (couplings before)) is in
        let among : Contains (couplings_among after (couplings before)) found.1 = (found.0, found.2, found.3) in
        let first = made_is_found users before legal.1 offer.place found.1 (Contains-from_filter stands (couplings before) found.1 among) found.4 in
        let second = made_is_found users before legal.1 offer.place ending.made ending.coupled ending.here in
        let same : found.1 ≡ ending.made = same_Some found.1 ending.made (sym first ∙ second) in
        absurd (ending.ended (ap stands (sym same) ∙ filter_passed stands (couplings before) found.1 among))

    back : (offer.place ≡ next_place before) ⊎ CouplingEnds e before offer → IsTrue (opens_at e before offer)
    back (inl new) = or_left (eqb offer.place (next_place before)) (coupling_ends e before offer.place) (eq-eqb offer.place (next_place before) new)
    back (inr ending) =
        or_right (eqb offer.place (next_place before)) (coupling_ends e before offer.place)
        (and_from was (not still) (list_any_member (has_place offer.place) (couplings before) ending.made ending.here ending.coupled)
        (not_from_false still (not_still ending still refl)))

-- a first set tells what is known
first_tells : (side : Side) (value : Option PlainArray) → TellsWhatIsKnown side (first_set side value) value
first_tells side None = record { last = refl; state = refl }
first_tells A (Some v) = record { last = refl; state = refl }
first_tells B (Some v) = record { last = refl; state = refl }

-- a use of its own leaves a side's set unseen
own_use : (side : Side) → state_after (unseen_by side) side kind.Use ≡ unseen_by side
own_use A = refl
own_use B = refl

-- and so does one access more, where a use gets what is known
tells_more : (side : Side) (told : Story PlainArray) (value : Option PlainArray) (access : Option GrantedAccess) → TellsWhatIsKnown side told value →
    ((v : PlainArray) → access ≡ Some (record { kind = kind.Use; value = v }) → value ≡ Some v) → TellsWhatIsKnown side (story_part side access ++ told) (known_after access value)
tells_more side told value None before gets = before
tells_more side told value (Some access) before gets = by access.kind access.value (λ v h. gets v h)
  where
    by : (k : Kind) (v : PlainArray) → ((w : PlainArray) → (let got : GrantedAccess = record { kind = k; value = v } in Some got) ≡ Some (record { kind = kind.Use; value = w }) → value ≡ Some w) →
        TellsWhatIsKnown side (story_part side (let got : GrantedAccess = record { kind = k; value = v } in Some got) ++ told) (Some v)
    by kind.Set v known_use = set side v
      where
        set : (s : Side) (v : PlainArray) → TellsWhatIsKnown s (record { side = s; kind = kind.Set; value = v } ∷ told) (Some v)
        set A v = record { last = refl; state = refl }
        set B v = record { last = refl; state = refl }
    by kind.Use v known_use =
        let is : value ≡ Some v = known_use v refl in
        let unseen : state_of_story told ≡ unseen_by side = before.state ∙ ap (λ (o : Option PlainArray). if is_some o then unseen_by side else Quiet) is in
        record {
          last = before.last ∙ is;
          state = ap (λ s. state_after s side kind.Use) unseen ∙ own_use side;
        }

-- the known value after an entry, by that before
pub known_later : (e : PlainEntry) (journal : Entries) (offer : Standing) → offer.place ≤ length journal → known (e ∷ journal) offer ≡ known_after (access_on offer e) (known journal offer)
known_later e journal offer earlier =
    let later : ltb offer.place (length journal + 1) ≡ true = lt-ltb _ _ (omega arith) in rw later refl

-- in a legal journal the story of an offer that is open then tells what is known
pub tells_what_is_known : (users : List ℕ) (e : PlainEntry) (journal : Entries) → IsLegal users (e ∷ journal) → (side : Side) (offer : Standing) → IsOpenThen e journal offer →
    TellsWhatIsKnown side (opening side (e ∷ journal) offer) (known (e ∷ journal) offer)
tells_what_is_known users e [] legal side offer then' = elim (opened_or_was_open e [] offer then') [
  | inl opens ↦ rw (opens, opening) (first_tells side (known (e ∷ []) offer))
  | inr was ↦ absurd (let h = was.0.stood in omega (arith, h.1))
]
tells_what_is_known users e (f ∷ journal) legal side offer then' = elim (opened_or_was_open e (f ∷ journal) offer then') [
  | inl opens ↦ rw (opens, opening) (first_tells side (known (e ∷ f ∷ journal) offer))
  | inr was ↦
      let before = tells_what_is_known users f journal legal.1 side offer (open_then-from_open users f journal offer legal.1 was.0.stood was.0.free) in
      let alone = none_now (f ∷ journal) offer.place was.0.free in
      rw (was.1, opening)
      (subst (TellsWhatIsKnown side (story_part side (access_on offer e) ++ opening side (f ∷ journal) offer)) (sym (known_later e (f ∷ journal) offer was.0.earlier))
      (tells_more side (opening side (f ∷ journal) offer) (known (f ∷ journal) offer) (access_on offer e) before
      (λ v h. ap (value_for (f ∷ journal) offer) (sym alone) ∙ uses_get_what_they_find users (f ∷ journal) e offer v legal was.0.stood h)))
]

pub open_offers_tell_what_is_known : (users : List ℕ) (journal : Entries) → IsLegal users journal → (side : Side) (offer : Standing) → Contains (open_offers journal) offer →
    TellsWhatIsKnown side (opening side journal offer) (known journal offer)
open_offers_tell_what_is_known users [] legal side offer h = absurd (omega (arith, h.1))
open_offers_tell_what_is_known users (e ∷ journal) legal side offer h =
    let free : Standing → Bool = λ (o : Standing). not (is_coupled (couplings (e ∷ journal)) o.place) in
    let has = Contains-from_filter free (standing (e ∷ journal)) offer h in
    let open' = not-true (is_coupled (couplings (e ∷ journal)) offer.place) (filter_passed free (standing (e ∷ journal)) offer h) in
    tells_what_is_known users e journal legal side offer (open_then-from_open users e journal offer legal has open')

-- the offers of a coupling were open before the entry made it
open_then-from_coupling : (users : List ℕ) (e : PlainEntry) (journal : Entries) → IsLegal users (e ∷ journal) → (place : ℕ) (coupling : Coupling) → IsCouplingOf (e ∷ journal) place coupling →
    coupling.at ≡ next_place journal → (offer : Standing) → Contains (standing (e ∷ journal)) offer →
    has_place offer.place (record { pair = record { a = coupling.a.place; b = coupling.b.place }; at = coupling.at }) ≡ true → IsOpenThen e journal offer
open_then-from_coupling users e journal legal place coupling is at offer has here = record { stands = has; free = free among refl }
  where
    made : Made
    made = record { pair = record { a = coupling.a.place; b = coupling.b.place }; at = coupling.at }

    stands : Made → Bool
    stands m = both_stand (standing (e ∷ journal)) m.pair

    kept : List Made
    kept = couplings_among (standing (e ∷ journal)) (couplings journal)

    among : Bool
    among = is_coupled kept offer.place

    free : (b : Bool) → among ≡ b → among ≡ false
    free false is_free = is_free
    free true taken =
        let found = Any-from_list_any (has_place offer.place) kept taken in
        let member : Contains kept found.1 = (found.0, found.2, found.3) in
        let now : Contains (couplings (e ∷ journal)) found.1 =
        subst (λ ms. Contains ms found.1) (sym (couplings_go_on users journal e legal)) (Contains-append_left kept (made_at (next_place journal) e.made) found.1 member) in
        let first = made_is_found users (e ∷ journal) legal offer.place found.1 now found.4 in
        let second = made_is_found users (e ∷ journal) legal offer.place made (coupling_among (e ∷ journal) place coupling is) here in
        let same : found.1 ≡ made = same_Some found.1 made (sym first ∙ second) in
        let old = Contains-from_filter (λ (m : Made). both_stand (standing journal) m.pair) (made_in journal) found.1 (Contains-from_filter stands (couplings journal) found.1 member) in
        let order = All-contains (IsInOrder (length journal)) (made_in journal) found.1 (IsSound-from_legal users journal legal.1).order old in
        let then' = ap (λ (m : Made). m.at) same in
        absurd (omega (arith, order.within, then', at))

-- the story of a coupling begins with what the giver knows
begins_by : (journal : Entries) (coupling : Coupling) → TellsWhatIsKnown A (opening A journal coupling.a) (known journal coupling.a) →
    TellsWhatIsKnown B (opening B journal coupling.b) (known journal coupling.b) → story journal coupling ≡ giver_story journal coupling (known journal coupling.a) →
    BeginsWithTheGivers journal coupling
begins_by journal coupling of_a of_b same =
    let parts = by (known journal coupling.a) (known journal coupling.b) of_a of_b same in record { last = parts.0; state = parts.1 }
  where
    by : (a b : Option PlainArray) → TellsWhatIsKnown A (opening A journal coupling.a) a → TellsWhatIsKnown B (opening B journal coupling.b) b →
        story journal coupling ≡ giver_story journal coupling a →
        (last_value (story journal coupling) ≡ option_or a b) × (state_of_story (story journal coupling) ≡ state_at_coupling a b)
    by (Some v) b tells_a tells_b is = (ap last_value is ∙ tells_a.last, ap state_of_story is ∙ tells_a.state)
    by None (Some v) tells_a tells_b is = (ap last_value is ∙ tells_b.last, ap state_of_story is ∙ tells_b.state)
    by None None tells_a tells_b is = (ap last_value is ∙ tells_b.last, ap state_of_story is ∙ tells_b.state)

pub stories_begin_with_the_givers : (users : List ℕ) (journal : Entries) → IsLegal users journal → (place : ℕ) (coupling : Coupling) → coupling_now journal place ≡ Some coupling →
    coupling.at ≡ length journal → BeginsWithTheGivers journal coupling
stories_begin_with_the_givers users [] legal place coupling now at =
    let is = found_as_made users [] legal place coupling now in let has = is.has_a in absurd (omega (arith, has.1))
stories_begin_with_the_givers users (e ∷ journal) legal place coupling now at =
    let is = found_as_made users (e ∷ journal) legal place coupling now in
    let at_next : coupling.at ≡ next_place journal = omega (arith, at) in
    let here_a = or_left (eqb coupling.a.place coupling.a.place) (eqb coupling.b.place coupling.a.place) (eq-eqb coupling.a.place coupling.a.place refl) in
    let here_b = or_right (eqb coupling.a.place coupling.b.place) (eqb coupling.b.place coupling.b.place) (eq-eqb coupling.b.place coupling.b.place refl) in
    begins_by (e ∷ journal) coupling
    (tells_what_is_known users e journal legal A coupling.a (open_then-from_coupling users e journal legal place coupling is at_next coupling.a is.has_a here_a))
    (tells_what_is_known users e journal legal B coupling.b (open_then-from_coupling users e journal legal place coupling is at_next coupling.b is.has_b here_b))
    (story-opening (e ∷ journal) coupling (omega arith) (omega (arith, at)))
