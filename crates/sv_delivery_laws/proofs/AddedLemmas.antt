-- What an entry adds to the story of a coupling, and that control holds it back while it would come early.
use Rattle.std.proofs.Common.{◌≡◌, refl, sym, ap, ap₂, ◌∙◌, subst, ℕ, ◌+◌, ◌<◌, ◌≤◌, Bool, true, false, ◌&&◌, cond, eqb, ltb, List, [], ◌∷◌, ◌++◌, length, Option, Some, None, inl, inr, arith}
use Rattle.std.specs.Prelude.{Contains, is_some}
use Rattle.std.specs.Option.{option_map_or}
use Rattle.std.proofs.lemmas.Bool.{cases_lt, eq-eqb, ne_eqb, lt-ltb, le-ltb}
use Rattle.std.proofs.lemmas.List.Elements.{All-contains}
use Rattle.apl_arrays.specs.Array.{PlainArray}
use Rattle.sv_access.specs.declared.access.Side.{Side}
use Rattle.sv_access.specs.declared.access.Side.TheVariants.{A, B}
use Rattle.sv_access.specs.declared.access.Kind.{Kind}
use Rattle.sv_access.specs.declared.access.Kind.TheVariants as kind
use Rattle.sv_access.specs.declared.control.Control.{Control}
use Rattle.sv_access.specs.declared.state.AccessState.{AccessState}
use Rattle.sv_access.specs.declared.state.AccessState.TheVariants.{Quiet, UnseenA}
use Rattle.sv_access.specs.declared.verdict.Verdict.TheVariants.{Granted, Held}
use Rattle.sv_access.specs.Access.{Access}
use Rattle.sv_access.specs.Control.{combined, has_element, in_view, no_control}
use Rattle.sv_access.specs.State.{vector_of_state}
use Rattle.sv_access.specs.Story.{Story, is_early, last_value, state_of_story}
use Rattle.sv_access.specs.Table.{element_of, verdict_of}
use Rattle.sv_access.proofs.StoryLemmas.{is_early_by_state, verdict_by_state}
use Rattle.sv_events.specs.Entry.{PlainEntry}
use Rattle.sv_rules.specs.declared.coupling.Coupling.{Coupling}
use Rattle.sv_rules.specs.declared.standing.Standing.{Standing}
use Rattle.sv_rules.specs.Control.{partners_vector, sharing_of, side_at, vector_of}
use Rattle.sv_rules.specs.Coupling.{couplings, coupling_now, open_offers}
use Rattle.sv_rules.specs.Entries.{Entries}
use Rattle.sv_rules.specs.Legal.{IsLegal}
use Rattle.sv_rules.specs.Outcome.{value_for}
use Rattle.sv_rules.specs.Standing.{standing, is_match}
use Rattle.sv_rules.specs.Story.{GrantedAccess, access_on, giver_story, known, opening, opens_at, story, story_part}
use Rattle.sv_offer_laws.specs.CouplingLaws.{IsCouplingOf}
use Rattle.sv_offer_laws.specs.LegalLaws.{HasMatchingOffers}
use Rattle.sv_offer_laws.proofs.LegalLemmas.{IsSound-from_legal}
use Rattle.sv_offer_laws.proofs.LookupLemmas.{found_as_made}
use Rattle.sv_offer_laws.proofs.NowLemmas.{coupling_among, coupling_is_found, none_now}
use Rattle.sv_story_laws.specs.AnswerLaws.{table_on}
use Rattle.sv_story_laws.specs.StoryLaws.{IsAccessOn, accesses_of, TellsWhatIsKnown, offer_on, unseen_by}
use Rattle.sv_story_laws.proofs.AccessLemmas.{IsAccessOn-from_access}
use Rattle.sv_story_laws.proofs.AnswerLemmas.{uses_get_what_they_find}
use Rattle.sv_story_laws.proofs.ControlLemmas.{control_of_a_coupled_offer_is_the_joint_one}
use Rattle.sv_story_laws.proofs.GrantLemmas.{granted_where_the_table_allows}
use Rattle.sv_story_laws.proofs.OpeningLemmas.{open_offers_tell_what_is_known}
use Rattle.sv_delivery_laws.specs.Stretch.{added_by, control_then, giver_of, story_then}
use Rattle.sv_delivery_laws.proofs.MomentLemmas.{Moment, alone, giver_at, has_offer_on, is_open, made_of, stands}

-- the giver's story at the entry that makes the coupling is its opening
giver_story-is : (journal : Entries) (coupling : Coupling) (giver : Side) (of_a : Option PlainArray) → cond (is_some of_a) A B ≡ giver →
    giver_story journal coupling of_a ≡ opening giver journal (offer_on coupling giver)
giver_story-is journal coupling giver (Some v) is = ap (λ (side : Side). opening side journal (offer_on coupling side)) is
giver_story-is journal coupling giver None is = ap (λ (side : Side). opening side journal (offer_on coupling side)) is

-- the story of a moment, by whether the coupling is made
pub story_made : (giver : Side) (journal : Entries) (coupling : Coupling) → coupling.at ≤ length journal → story_then giver journal coupling ≡ story journal coupling
story_made giver journal coupling made = let late : ltb (length journal) coupling.at ≡ false = le-ltb (length journal) coupling.at made in rw (late, story_then) refl

pub story_alone : (giver : Side) (journal : Entries) (coupling : Coupling) → length journal < coupling.at → story_then giver journal coupling ≡ opening giver journal (offer_on coupling giver)
story_alone giver journal coupling early = let is : ltb (length journal) coupling.at ≡ true = lt-ltb (length journal) coupling.at early in rw (is, story_then) refl

-- what an entry adds, by the same
pub added_made : (giver : Side) (e : PlainEntry) (journal : Entries) (coupling : Coupling) → coupling.at ≤ length journal → added_by giver e journal coupling ≡ accesses_of coupling e
added_made giver e journal coupling made = let late : ltb coupling.at (length journal + 1) ≡ true = lt-ltb coupling.at (length journal + 1) (omega arith) in rw late refl

pub added_alone : (giver : Side) (e : PlainEntry) (journal : Entries) (coupling : Coupling) → length journal < coupling.at →
    added_by giver e journal coupling ≡ story_part giver (access_on (offer_on coupling giver) e)
added_alone giver e journal coupling early = let is : ltb coupling.at (length journal + 1) ≡ false = le-ltb coupling.at (length journal + 1) (omega arith) in rw is refl

-- an opening goes on by the access of its party
opening_goes_on : (giver : Side) (e : PlainEntry) (journal : Entries) (offer : Standing) → opens_at e journal offer ≡ false →
    opening giver (e ∷ journal) offer ≡ story_part giver (access_on offer e) ++ opening giver journal offer
opening_goes_on giver e journal offer stays = rw (stays, opening) refl

-- the story of a coupling goes on by the accesses of both sides
story_goes_on : (e : PlainEntry) (journal : Entries) (coupling : Coupling) → coupling.at ≤ length journal → story (e ∷ journal) coupling ≡ accesses_of coupling e ++ story journal coupling
story_goes_on e journal coupling made = let later : ltb coupling.at (length journal + 1) ≡ true = lt-ltb coupling.at (length journal + 1) (omega arith) in rw (later, story) refl

story_begins : (e : PlainEntry) (journal : Entries) (coupling : Coupling) → length journal < coupling.at → story (e ∷ journal) coupling ≡ giver_story (e ∷ journal) coupling (known (e ∷ journal) coupling.a)
story_begins e journal coupling early = let now : ltb coupling.at (length journal + 1) ≡ false = le-ltb coupling.at (length journal + 1) (omega arith) in rw (now, story) refl

-- so the story of a moment goes on by what an entry adds
pub story_grows : (giver : Side) (e : PlainEntry) (journal : Entries) (coupling : Coupling) → opens_at e journal (offer_on coupling giver) ≡ false →
    (coupling.at ≤ length (e ∷ journal) → giver_of (e ∷ journal) coupling ≡ giver) →
    story_then giver (e ∷ journal) coupling ≡ added_by giver e journal coupling ++ story_then giver journal coupling
story_grows giver e journal coupling stays gives = elim (cases_lt (length journal) coupling.at) [
  | inl early ↦ elim (cases_lt (length (e ∷ journal)) coupling.at) [
    | inl still ↦ story_alone giver (e ∷ journal) coupling still ∙ goes_on early
    | inr now ↦
        story_made giver (e ∷ journal) coupling now ∙ story_begins e journal coupling early
        ∙ giver_story-is (e ∷ journal) coupling giver (known (e ∷ journal) coupling.a) (giver_at e journal coupling giver (gives now) early) ∙ goes_on early
  ]
  | inr made ↦
      story_made giver (e ∷ journal) coupling (omega (arith, made)) ∙ story_goes_on e journal coupling made
      ∙ ap₂ (λ (one other : Story PlainArray). one ++ other) (sym (added_made giver e journal coupling made)) (sym (story_made giver journal coupling made))
]
  where
    goes_on : length journal < coupling.at → opening giver (e ∷ journal) (offer_on coupling giver) ≡ added_by giver e journal coupling ++ story_then giver journal coupling
    goes_on early =
        opening_goes_on giver e journal (offer_on coupling giver) stays
        ∙ ap₂ (λ (one other : Story PlainArray). one ++ other) (sym (added_alone giver e journal coupling early)) (sym (story_alone giver journal coupling early))

-- an access that the table grants is not early where the control has its element
granted_late : (joint : Control) (told : Story PlainArray) (side : Side) (k : Kind) → verdict_of joint (state_of_story told) side k ≡ Granted →
    has_element joint (element_of side k) ≡ true → is_early told side k ≡ false
granted_late joint told side k granted has = by (has_element joint (element_of side k)) (is_early told side k) (sym (verdict_by_state joint told side k) ∙ granted) has
  where
    by : (x y : Bool) → option_map_or Held (cond (x && y) (Some (element_of side k)) None) Granted ≡ Granted → x ≡ true → y ≡ false
    by x false h is = refl
    by true true h is = absurd (let no : Held (element_of side k) ≡ Granted = h in cc)
    by false true h is = cc

-- an access that an entry makes on a standing offer was granted by the table
granted_by_the_table : (users : List ℕ) (journal : Entries) (e : PlainEntry) (offer : Standing) (k : Kind) (v : PlainArray) → IsLegal users (e ∷ journal) → Contains (standing journal) offer →
    access_on offer e ≡ Some (record { kind = k; value = v }) → table_on journal k offer ≡ Granted
granted_by_the_table users journal e offer k v legal has h = by k (IsAccessOn-from_access offer e (record { kind = k; value = v }) h)
  where
    by : (l : Kind) → IsAccessOn offer e (record { kind = l; value = v }) → table_on journal l offer ≡ Granted
    by kind.Set on = (granted_where_the_table_allows users journal e legal kind.Set offer (record { stands = has; own = on.0; act = (v, on.1.0) })).0 on.1.1
    by kind.Use on = (granted_where_the_table_allows users journal e legal kind.Use offer (record { stands = has; own = on.0; act = on.1.0 })).0 (inl (v, on.1.1))

-- an access that is not early where the control holds it back, and that gets the value set last, if it is a use
pub record IsLate (control : Control) (told : Story PlainArray) (access : Access PlainArray) : Type 0 where
  pub late : has_element control (element_of access.side access.kind) ≡ true → is_early told access.side access.kind ≡ false
  pub gets : access.kind ≡ kind.Use → last_value told ≡ Some access.value

-- what an entry adds is such an access, or nothing
pub data AddsLate (control : Control) (told added : Story PlainArray) : Type 0 where
  adds_nothing : added ≡ [] → AddsLate control told added
  adds_one : (access : Access PlainArray) → added ≡ access ∷ [] → IsLate control told access → AddsLate control told added

-- a control that is seen twice from a side is the same
seen_twice : (viewer side : Side) (k : Kind) (joint : Control) → has_element (in_view viewer (in_view viewer joint)) (element_of side k) ≡ has_element joint (element_of side k)
seen_twice A side k joint = refl
seen_twice B A kind.Set joint = refl
seen_twice B A kind.Use joint = refl
seen_twice B B kind.Set joint = refl
seen_twice B B kind.Use joint = refl

-- a side's own elements in its own view
own_elements : (side : Side) (k : Kind) (joint : Control) → has_element (in_view side joint) (element_of side k) ≡ has_element joint (element_of A k)
own_elements A k joint = refl
own_elements B kind.Set joint = refl
own_elements B kind.Use joint = refl

-- the side of each offer of a coupling
pub side_on : (coupling : Coupling) (side : Side) → coupling.a.place < coupling.b.place → side_at coupling (offer_on coupling side).place ≡ side
side_on coupling A lower = let same : eqb coupling.a.place coupling.a.place ≡ true = eq-eqb coupling.a.place coupling.a.place refl in rw same refl
side_on coupling B lower = let other : eqb coupling.a.place coupling.b.place ≡ false = ne_eqb coupling.a.place coupling.b.place (λ same. omega (arith, lower, same)) in rw other refl

-- a coupling that stands is the one of both its offers
pub now_on : (users : List ℕ) (journal : Entries) (coupling : Coupling) (side : Side) → IsLegal users journal → coupling_now journal coupling.a.place ≡ Some coupling →
    coupling_now journal (offer_on coupling side).place ≡ Some coupling
now_on users journal coupling A legal now = now
now_on users journal coupling B legal now =
    let is = found_as_made users journal legal coupling.a.place coupling now in
    coupling_is_found users journal legal coupling.b.place coupling (record { has_a = is.has_a; has_b = is.has_b; here = inr refl; lower_first = is.lower_first; made = is.made })

-- while a coupling stands the control of a moment is the joint one
pub joint_then : (users : List ℕ) (journal : Entries) (coupling : Coupling) (giver : Side) → IsLegal users journal → coupling_now journal coupling.a.place ≡ Some coupling →
    control_then giver journal coupling ≡ in_view giver (in_view giver (combined (vector_of journal coupling.a) (vector_of journal coupling.b)))
joint_then users journal coupling giver legal now =
    let is = found_as_made users journal legal coupling.a.place coupling now in
    let offer = offer_on coupling giver in
    let joint = combined (vector_of journal coupling.a) (vector_of journal coupling.b) in
    ap (in_view giver)
    (control_of_a_coupled_offer_is_the_joint_one users journal legal offer coupling (has_offer_on journal coupling.a.place coupling giver is) (now_on users journal coupling giver legal now)
    ∙ ap (λ (side : Side). in_view side joint) (side_on coupling giver is.lower_first))

-- while it is alone it is the vector of the giver's offer
pub vector_then : (journal : Entries) (coupling : Coupling) (giver : Side) → coupling_now journal (offer_on coupling giver).place ≡ None →
    control_then giver journal coupling ≡ in_view giver (combined (vector_of journal (offer_on coupling giver)) no_control)
vector_then journal coupling giver none =
    let offer = offer_on coupling giver in
    ap (λ (c : Option Coupling). in_view giver (combined (vector_of journal offer) (partners_vector journal offer.place c))) none

-- an access of a side while the coupling stands
late_while_coupled : (users : List ℕ) (e : PlainEntry) (journal : Entries) (giver : Side) (coupling : Coupling) → IsLegal users (e ∷ journal) →
    coupling_now journal coupling.a.place ≡ Some coupling → (side : Side) (k : Kind) (v : PlainArray) → access_on (offer_on coupling side) e ≡ Some (record { kind = k; value = v }) →
    IsLate (control_then giver journal coupling) (story journal coupling) (record { side = side; kind = k; value = v })
late_while_coupled users e journal giver coupling legal now side k v h = record {
  late = λ has. granted_late joint (story journal coupling) side k granted
      (sym (seen_twice giver side k joint) ∙ ap (λ (c : Control). has_element c (element_of side k)) (sym (joint_then users journal coupling giver legal.1 now)) ∙ has);
  gets = λ is. ap (value_for journal offer) (sym now_here)
      ∙ uses_get_what_they_find users journal e offer v legal has_offer (h ∙ ap (λ (l : Kind). let got : GrantedAccess = record { kind = l; value = v } in Some got) is);
}
  where
    offer : Standing
    offer = offer_on coupling side

    joint : Control
    joint = combined (vector_of journal coupling.a) (vector_of journal coupling.b)

    is_coupling : IsCouplingOf journal coupling.a.place coupling
    is_coupling = found_as_made users journal legal.1 coupling.a.place coupling now

    has_offer : Contains (standing journal) offer
    has_offer = has_offer_on journal coupling.a.place coupling side is_coupling

    now_here : coupling_now journal offer.place ≡ Some coupling
    now_here = now_on users journal coupling side legal.1 now

    granted : verdict_of joint (state_of_story (story journal coupling)) side k ≡ Granted
    granted =
        subst (λ (s : Side). verdict_of joint (state_of_story (story journal coupling)) s k ≡ Granted) (side_on coupling side is_coupling.lower_first)
        (subst (λ (c : Option Coupling). let shared = sharing_of journal offer c in verdict_of (combined shared.a shared.b) (state_of_story shared.story) shared.side k ≡ Granted) now_here
        (granted_by_the_table users journal e offer k v legal has_offer h))

-- an early access of a party alone is early on either side
early_alone : (side : Side) (k : Kind) (knows : Bool) (one other : Story PlainArray) → state_of_story one ≡ cond knows (unseen_by side) Quiet →
    state_of_story other ≡ cond knows UnseenA Quiet → is_early one side k ≡ is_early other A k
early_alone side k knows one other is_one is_other =
    is_early_by_state one side k ∙ ap (λ (s : AccessState). has_element (vector_of_state s A) (element_of side k)) is_one ∙ by side k knows
    ∙ sym (is_early_by_state other A k ∙ ap (λ (s : AccessState). has_element (vector_of_state s A) (element_of A k)) is_other)
  where
    by : (s : Side) (l : Kind) (b : Bool) → has_element (vector_of_state (cond b (unseen_by s) Quiet) A) (element_of s l) ≡ has_element (vector_of_state (cond b UnseenA Quiet) A) (element_of A l)
    by A l b = refl
    by B kind.Set true = refl
    by B kind.Set false = refl
    by B kind.Use true = refl
    by B kind.Use false = refl

-- an access of the giver while its offer is open
late_while_alone : (users : List ℕ) (e : PlainEntry) (journal : Entries) (giver : Side) (coupling : Coupling) → IsLegal users (e ∷ journal) →
    Contains (standing journal) (offer_on coupling giver) → coupling_now journal (offer_on coupling giver).place ≡ None →
    Contains (open_offers journal) (offer_on coupling giver) →
    (k : Kind) (v : PlainArray) → access_on (offer_on coupling giver) e ≡ Some (record { kind = k; value = v }) →
    IsLate (control_then giver journal coupling) (opening giver journal (offer_on coupling giver)) (record { side = giver; kind = k; value = v })
late_while_alone users e journal giver coupling legal has none open' k v h = record {
  late = λ held. early_alone giver k (is_some (known journal offer)) (opening giver journal offer) (opening A journal offer) (tells giver).state (tells A).state
      ∙ granted_late joint (opening A journal offer) A k granted
      (sym (own_elements giver k joint) ∙ ap (λ (c : Control). has_element c (element_of giver k)) (sym (vector_then journal coupling giver none)) ∙ held);
  gets = λ is. (tells giver).last ∙ ap (value_for journal offer) (sym none)
      ∙ uses_get_what_they_find users journal e offer v legal has (h ∙ ap (λ (l : Kind). let got : GrantedAccess = record { kind = l; value = v } in Some got) is);
}
  where
    offer : Standing
    offer = offer_on coupling giver

    joint : Control
    joint = combined (vector_of journal offer) no_control

    tells : (side : Side) → TellsWhatIsKnown side (opening side journal offer) (known journal offer)
    tells side = open_offers_tell_what_is_known users journal legal.1 side offer open'

    granted : verdict_of joint (state_of_story (opening A journal offer)) A k ≡ Granted
    granted =
        subst (λ (c : Option Coupling). let shared = sharing_of journal offer c in verdict_of (combined shared.a shared.b) (state_of_story shared.story) shared.side k ≡ Granted) none
        (granted_by_the_table users journal e offer k v legal has h)

-- offers that match are of two parties
match_of_two : (one other : Standing) → is_match one other ≡ true → one.party ≡ other.party → ⊥
match_of_two one other matching same =
    let is : eqb one.party other.party ≡ true = eq-eqb one.party other.party same in let no : false ≡ true = rw is at matching in cc

-- the two offers of a coupling are of two parties
two_parties : (users : List ℕ) (journal : Entries) (coupling : Coupling) → IsLegal users journal → IsCouplingOf journal coupling.a.place coupling → coupling.a.party ≡ coupling.b.party → ⊥
two_parties users journal coupling legal is same =
    let matching : is_match coupling.a coupling.b ≡ true =
    All-contains (HasMatchingOffers (standing journal)) (couplings journal) (made_of coupling) (IsSound-from_legal users journal legal).matching
    (coupling_among journal coupling.a.place coupling is) coupling.a coupling.b is.has_a is.has_b refl refl in
    match_of_two coupling.a coupling.b matching same

-- what an entry adds at a moment of a stretch
pub adds_late : (users : List ℕ) (e : PlainEntry) (journal : Entries) (giver : Side) (coupling : Coupling) → IsLegal users (e ∷ journal) → Moment giver coupling journal →
    AddsLate (control_then giver journal coupling) (story_then giver journal coupling) (added_by giver e journal coupling)
adds_late users e journal giver coupling legal (stands made now) =
    subst (λ (told : Story PlainArray). AddsLate (control_then giver journal coupling) told (added_by giver e journal coupling)) (sym (story_made giver journal coupling made))
    (subst (AddsLate (control_then giver journal coupling) (story journal coupling)) (sym (added_made giver e journal coupling made))
    (by (access_on coupling.a e) (access_on coupling.b e) refl refl))
  where
    control : Control
    control = control_then giver journal coupling

    by : (of_a of_b : Option GrantedAccess) → access_on coupling.a e ≡ of_a → access_on coupling.b e ≡ of_b → AddsLate control (story journal coupling) (story_part A of_a ++ story_part B of_b)
    by None None is_a is_b = adds_nothing refl
    by (Some access) None is_a is_b = adds_one (record { side = A; kind = access.kind; value = access.value }) refl (late_while_coupled users e journal giver coupling legal now A access.kind access.value is_a)
    by None (Some access) is_a is_b = adds_one (record { side = B; kind = access.kind; value = access.value }) refl (late_while_coupled users e journal giver coupling legal now B access.kind access.value is_b)
    by (Some first) (Some second) is_a is_b =
        let own_a = (IsAccessOn-from_access coupling.a e first is_a).0 in
        let own_b = (IsAccessOn-from_access coupling.b e second is_b).0 in
        absurd (two_parties users journal coupling legal.1 (found_as_made users journal legal.1 coupling.a.place coupling now) (sym own_a ∙ own_b))
adds_late users e journal giver coupling legal (alone early has free) =
    subst (λ (told : Story PlainArray). AddsLate (control_then giver journal coupling) told (added_by giver e journal coupling)) (sym (story_alone giver journal coupling early))
    (subst (AddsLate (control_then giver journal coupling) (opening giver journal offer)) (sym (added_alone giver e journal coupling early))
    (by (access_on offer e) refl))
  where
    offer : Standing
    offer = offer_on coupling giver

    by : (of : Option GrantedAccess) → access_on offer e ≡ of → AddsLate (control_then giver journal coupling) (opening giver journal offer) (story_part giver of)
    by None is = adds_nothing refl
    by (Some access) is =
        adds_one (record { side = giver; kind = access.kind; value = access.value }) refl
        (late_while_alone users e journal giver coupling legal has (none_now journal offer.place free) (is_open journal offer has free) access.kind access.value is)
