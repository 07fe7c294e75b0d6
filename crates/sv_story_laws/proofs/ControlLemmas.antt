-- Vectors, entry by entry, and what they refuse.
use Rattle.std.proofs.Common.{◌≡◌, refl, sym, ap, ap₂, ◌∙◌, subst, ℕ, ◌+◌, ◌≤◌, Bool, true, false, ◌&&◌, ◌||◌, eqb, ltb, List, [], ◌∷◌, ◌++◌, length, Option, Some, None, inl, inr, arith}
use Rattle.std.specs.Prelude.{◌↔◌, Contains, IfSome, option_map}
use Rattle.std.specs.Option.{option_map_or}
use Rattle.std.proofs.lemmas.Bool.{cases_Bool, eqb-true, eqb-false, eq-eqb, lt-ltb, le-ltb}
use Rattle.std.proofs.lemmas.Cmp.{nat_list_eq_equiv}
use Rattle.std.proofs.lemmas.List.{length-append}
use Rattle.std.proofs.lemmas.List.Elements.{All-head, All-tail}
use Rattle.std.proofs.lemmas.Option.{cond_some, none-some, same_Some}
use Rattle.apl_arrays.specs.Array.{PlainArray}
use Rattle.sv_access.specs.Control.{combined, has_element, in_view, no_control}
use Rattle.sv_access.specs.State.{vector_of_state}
use Rattle.sv_access.specs.Story.{Story, is_early, refused_element, state_of_story}
use Rattle.sv_access.specs.Table.{element_of, owners_among, owners_of, verdict_of}
use Rattle.sv_access.specs.declared.access.Kind.{Kind}
use Rattle.sv_access.specs.declared.access.Kind.TheVariants.{Set, Use}
use Rattle.sv_access.specs.declared.access.Side.{Side}
use Rattle.sv_access.specs.declared.access.Side.TheVariants.{A, B}
use Rattle.sv_access.specs.declared.control.Control.{Control}
use Rattle.sv_access.specs.declared.verdict.Owners.{Owners}
use Rattle.sv_access.specs.declared.verdict.Owners.TheVariants.{Mine}
use Rattle.sv_access.specs.declared.verdict.Verdict.TheVariants.{Granted, Held}
use Rattle.sv_access.proofs.StoryLemmas.{vector_by_state, verdict_by_state, joined_alike}
use Rattle.sv_events.specs.Entry.{PlainEntry}
use Rattle.sv_events.specs.Row.{act_row}
use Rattle.sv_events.specs.declared.event.Act.{Act}
use Rattle.sv_events.specs.declared.event.Act.TheVariants.{SetControl}
use Rattle.sv_events.specs.declared.event.Hold.{Hold}
use Rattle.sv_events.specs.declared.row.Accessing.{Accessing}
use Rattle.sv_rules.specs.Control.{control_to, control_on, vector_of, Sharing, sharing, sharing_of, side_at, state_vector_of, control_in_force, partners_vector}
use Rattle.sv_story_laws.specs.ControlLaws.{SetsNoControl}
use Rattle.sv_rules.specs.Coupling.{coupling_now}
use Rattle.apl_arrays.specs.Name.{same_name}
use Rattle.sv_rules.specs.Entries.{Entries, next_place}
use Rattle.sv_rules.specs.Legal.{IsLegal}
use Rattle.sv_rules.specs.Refused.{hold_under, hold_on, hold_of, refused}
use Rattle.sv_rules.specs.Standing.{standing, own_offer}
use Rattle.sv_rules.specs.Story.{opening, story}
use Rattle.sv_story_laws.specs.WaitLaws.{SetNoControl}
use Rattle.sv_rules.specs.declared.coupling.Coupling.{Coupling}
use Rattle.sv_rules.specs.declared.standing.Standing.{Standing}
use Rattle.sv_offer_laws.specs.CouplingLaws.{IsCouplingOf}
use Rattle.sv_offer_laws.proofs.LookupLemmas.{found_as_made}
use Rattle.sv_offer_laws.proofs.OwnLemmas.{same_name-is}
use Rattle.sv_offer_laws.proofs.PlaceLemmas.{places_ascend, same_by_place}

-- a control that an act sets on a local name
act-from_control : (local : List ℕ) (act : Act) (control : Control) → control_to local (act_row act).row.controls ≡ Some control → act ≡ SetControl local control
act-from_control local (SetControl name set) control h =
    let parts = cond_some (same_name name local) set control h in
    ap (λ (n : List ℕ). SetControl n set) (same_name-is name local parts.0) ∙ ap (λ (c : Control). SetControl local c) parts.1
act-from_control local _ control h = absurd (none-some control h)

pub controls_are_set_by_the_party : (offer : Standing) (e : PlainEntry) (control : Control) →
    (control_on offer e ≡ Some control) ↔ ((e.party ≡ offer.party) × (e.act ≡ SetControl offer.local control))
controls_are_set_by_the_party offer e control = (there, back)
  where
    there : control_on offer e ≡ Some control → (e.party ≡ offer.party) × (e.act ≡ SetControl offer.local control)
    there h = elim (cases_Bool (eqb e.party offer.party)) [
      | inl own ↦ (eqb-true _ _ own, act-from_control offer.local e.act control (rw own at h))
      | inr others ↦ absurd (none-some control (rw others at h))
    ]

    back : (e.party ≡ offer.party) × (e.act ≡ SetControl offer.local control) → control_on offer e ≡ Some control
    back h =
        let own : eqb e.party offer.party ≡ true = eq-eqb _ _ h.0 in rw (own, h.1, nat_list_eq_equiv.refl offer.local) refl

-- entries that set no control on the offer change nothing of its vector
pub vector_past : (offer : Standing) (later before : Entries) → offer.place ≤ length before → SetsNoControl offer later → vector_of (later ++ before) offer ≡ vector_of before offer
vector_past offer [] before early none = refl
vector_past offer (e ∷ later) before early none =
    let P : PlainEntry → Type 0 = λ (f : PlainEntry). control_on offer f ≡ None in
    let early_later : ltb offer.place (length (later ++ before) + 1) ≡ true = lt-ltb _ _ (omega (arith, length-append later before)) in
    rw (early_later, All-head P e later none) (vector_past offer later before early (All-tail P e later none))

pub vector_at : (offer : Standing) (e : PlainEntry) (before : Entries) (control : Control) → offer.place ≤ length before → control_on offer e ≡ Some control → vector_of (e ∷ before) offer ≡ control
vector_at offer e before control early h =
    let early_now : ltb offer.place (length before + 1) ≡ true = lt-ltb _ _ (omega arith) in rw (early_now, h) refl

vector_offered : (offer : Standing) (offered : PlainEntry) (before : Entries) → offer.place ≡ next_place before → vector_of (offered ∷ before) offer ≡ no_control
vector_offered offer offered before at =
    let not_after : ltb offer.place (length before + 1) ≡ false = le-ltb _ _ (omega arith) in rw not_after refl

pub vector_is_the_last_control : (offer : Standing) (before : Entries) (offered : PlainEntry) (between : Entries) (e : PlainEntry) (later : Entries) (control : Control) →
    offer.place ≡ next_place before → control_on offer e ≡ Some control → SetsNoControl offer later →
    vector_of (later ++ e ∷ (between ++ offered ∷ before)) offer ≡ control
vector_is_the_last_control offer before offered between e later control at h none =
    let size : length (between ++ offered ∷ before) ≡ length between + length (offered ∷ before) = length-append between (offered ∷ before) in
    vector_past offer later (e ∷ (between ++ offered ∷ before)) (omega arith) none ∙ vector_at offer e (between ++ offered ∷ before) control (omega arith) h

pub vector_is_none_at_first : (offer : Standing) (before : Entries) (offered : PlainEntry) (later : Entries) →
    offer.place ≡ next_place before → SetsNoControl offer later → vector_of (later ++ offered ∷ before) offer ≡ no_control
vector_is_none_at_first offer before offered later at none =
    vector_past offer later (offered ∷ before) (omega arith) none ∙ vector_offered offer offered before at

pub state_vectors_are_of_the_story : (journal : Entries) (place : ℕ) (coupling : Coupling) →
    state_vector_of journal place (Some coupling) ≡ vector_of_state (state_of_story (story journal coupling)) (side_at coupling place)
state_vectors_are_of_the_story journal place coupling = sym (vector_by_state (story journal coupling) (side_at coupling place))

-- what refuses an access of a party without a partner is its own
mine_alone : (own : Control) (told : Story PlainArray) (kind : Kind) →
    IfSome (hold_under (record { story = told; a = own; b = no_control; side = A }) kind) (λ hold. hold.owners ≡ Mine)
mine_alone own told Set = elim (cases_Bool (has_element own 1)) [
  | inl has ↦ elim (cases_Bool (is_early told A Set)) [ inl early ↦ rw (has, early) (ap (λ (b : Bool). owners_among b false) has) | inr late ↦ rw (has, late) tt ]
  | inr lacks ↦ rw lacks tt
]
mine_alone own told Use = elim (cases_Bool (has_element own 3)) [
  | inl has ↦ elim (cases_Bool (is_early told A Use)) [ inl early ↦ rw (has, early) (ap (λ (b : Bool). owners_among b false) has) | inr late ↦ rw (has, late) tt ]
  | inr lacks ↦ rw lacks tt
]

pub holds_of_open_offers_are_mine : (journal : Entries) (kind : Kind) (offer : Standing) → coupling_now journal offer.place ≡ None →
    IfSome (hold_on journal kind (Some offer)) (λ hold. hold.owners ≡ Mine)
holds_of_open_offers_are_mine journal kind offer alone =
    subst (λ (c : Option Coupling). IfSome (hold_under (sharing_of journal offer c) kind) (λ hold. hold.owners ≡ Mine)) (sym alone)
    (mine_alone (vector_of journal offer) (opening A journal offer) kind)

-- what the table says of an element that refuses, or of none
table_by : (refusing : Option ℕ) (element : ℕ) (own : ℕ → Owners) → ((found : ℕ) → refusing ≡ Some found → found ≡ element) →
    let hold_at : ℕ → Hold = λ (n : ℕ). record { element = n; owners = own n } in
    ((option_map hold_at refusing ≡ None) ↔ (option_map_or Held refusing Granted ≡ Granted))
    × ((hold : Hold) → (option_map hold_at refusing ≡ Some hold) ↔ ((option_map_or Held refusing Granted ≡ Held hold.element) × (hold.owners ≡ own element)))
table_by None element own at = (((λ h. refl), (λ h. refl)), λ hold. ((λ h. absurd (none-some hold h)), (λ h. absurd (let no : Granted ≡ Held hold.element = h.0 in cc))))
table_by (Some found) element own at = (((λ h. cc), (λ h. cc)), λ hold. (there hold, back hold))
  where
    hold_at : ℕ → Hold
    hold_at n = record { element = n; owners = own n }

    there : (hold : Hold) → Some (hold_at found) ≡ Some hold → (Held found ≡ Held hold.element) × (hold.owners ≡ own element)
    there hold h =
        let same : hold_at found ≡ hold = same_Some _ _ h in
        (ap (λ (t : Hold). Held t.element) same, sym (ap (λ (t : Hold). t.owners) same) ∙ ap own (at found refl))

    back : (hold : Hold) → (Held found ≡ Held hold.element) × (hold.owners ≡ own element) → Some (hold_at found) ≡ Some hold
    back hold h =
        let held : Held found ≡ Held hold.element = h.0 in
        let same : found ≡ hold.element = cc in
        ap₂ (λ (n : ℕ) (o : Owners). let t : Hold = record { element = n; owners = o } in Some t) same (ap own (at found refl) ∙ sym h.1)

-- an access is held exactly where the table over the story holds it
pub holds_are_those_of_the_table : (journal : Entries) (kind : Kind) (offer : Standing) →
    let shared = sharing journal offer in
    let joint = combined shared.a shared.b in
    ((hold_on journal kind (Some offer) ≡ None) ↔ (verdict_of joint (state_of_story shared.story) shared.side kind ≡ Granted))
    × ((hold : Hold) →
    (hold_on journal kind (Some offer) ≡ Some hold) ↔
    ((verdict_of joint (state_of_story shared.story) shared.side kind ≡ Held hold.element)
    × (hold.owners ≡ owners_of shared.a shared.b shared.side (element_of shared.side kind))))
holds_are_those_of_the_table journal kind offer =
    let shared = sharing journal offer in
    let joint = combined shared.a shared.b in
    rw (verdict_by_state joint shared.story shared.side kind)
    (table_by (refused_element joint shared.story shared.side kind) (element_of shared.side kind) (owners_of shared.a shared.b shared.side)
    (λ found h. sym (cond_some (has_element joint (element_of shared.side kind) && is_early shared.story shared.side kind) (element_of shared.side kind) found h).1))

or-false : (b : Bool) → (b || false) ≡ b
or-false true = refl
or-false false = refl

-- a vector joined with none is itself
joined_with_none : (elements : List Bool) → length elements ≡ 4 → let own : Control = record { 0 = elements } in combined own no_control ≡ own
joined_with_none (a ∷ b ∷ c ∷ d ∷ []) size = rw (or-false a, or-false b, or-false c, or-false d) refl
joined_with_none [] size = absurd (omega arith)
joined_with_none (a ∷ []) size = absurd (omega arith)
joined_with_none (a ∷ b ∷ []) size = absurd (omega arith)
joined_with_none (a ∷ b ∷ c ∷ []) size = absurd (omega arith)
joined_with_none (a ∷ b ∷ c ∷ d ∷ e ∷ more) size = absurd (omega arith)

pub control_of_an_open_offer_is_its_vector : (journal : Entries) (offer : Standing) → coupling_now journal offer.place ≡ None → length (vector_of journal offer).0 ≡ 4 →
    control_in_force journal (Some offer) ≡ vector_of journal offer
control_of_an_open_offer_is_its_vector journal offer alone size =
    ap (λ (c : Option Coupling). combined (vector_of journal offer) (partners_vector journal offer.place c)) alone
    ∙ joined_with_none (vector_of journal offer).0 size

-- where no entry sets a control no vector has a 1
sets_none : (offer : Standing) (e : PlainEntry) → (act_row e.act).row.controls ≡ None → control_on offer e ≡ None
sets_none offer e none = elim (cases_Bool (eqb e.party offer.party)) [
  | inl own ↦ rw own (ap (control_to offer.local) none)
  | inr others ↦ rw others refl
]

vector_none : (journal : Entries) (offer : Standing) → SetNoControl journal → vector_of journal offer ≡ no_control
vector_none [] offer none = refl
vector_none (e ∷ journal) offer none =
    let P : PlainEntry → Type 0 = λ (f : PlainEntry). (act_row f.act).row.controls ≡ None in
    elim (cases_Bool (ltb offer.place (length journal + 1))) [
      | inl after ↦ rw (after, sets_none offer e (All-head P e journal none)) (vector_none journal offer (All-tail P e journal none))
      | inr before ↦ rw before refl
    ]

no_element : (side : Side) (kind : Kind) → has_element (combined no_control no_control) (element_of side kind) ≡ false
no_element A Set = refl
no_element A Use = refl
no_element B Set = refl
no_element B Use = refl

no_hold : (shared : Sharing) (kind : Kind) → shared.a ≡ no_control → shared.b ≡ no_control → hold_under shared kind ≡ None
no_hold shared kind of_a of_b = rw (of_a, of_b, no_element shared.side kind) refl

no_hold_under : (journal : Entries) (offer : Standing) (coupling : Option Coupling) (kind : Kind) → SetNoControl journal → hold_under (sharing_of journal offer coupling) kind ≡ None
no_hold_under journal offer None kind none = no_hold (sharing_of journal offer None) kind (vector_none journal offer none) refl
no_hold_under journal offer (Some coupling) kind none = no_hold (sharing_of journal offer (Some coupling)) kind (vector_none journal coupling.a none) (vector_none journal coupling.b none)

pub nothing_is_refused_without_control : (journal : Entries) (party : ℕ) (act : Act) → SetNoControl journal → refused journal party act ≡ None
nothing_is_refused_without_control journal party act none = by_access (act_row act).row.accesses
  where
    by_offer : (kind : Kind) (own : Option Standing) → hold_on journal kind own ≡ None
    by_offer kind None = refl
    by_offer kind (Some offer) = no_hold_under journal offer (coupling_now journal offer.place) kind none

    by_access : (access : Option Accessing) → hold_of journal party access ≡ None
    by_access None = refl
    by_access (Some access) = by_offer access.kind (own_offer (standing journal) party access.local)

-- the control in force of a coupled offer is the joint one, as its side sees it
pub control_of_a_coupled_offer_is_the_joint_one : (users : List ℕ) (journal : Entries) → IsLegal users journal → (offer : Standing) (coupling : Coupling) → Contains (standing journal) offer →
    coupling_now journal offer.place ≡ Some coupling →
    control_in_force journal (Some offer) ≡ in_view (side_at coupling offer.place) (combined (vector_of journal coupling.a) (vector_of journal coupling.b))
control_of_a_coupled_offer_is_the_joint_one users journal legal offer coupling has now =
    ap (λ (c : Option Coupling). combined (vector_of journal offer) (partners_vector journal offer.place c)) now ∙ by_side
  where
    is : IsCouplingOf journal offer.place coupling
    is = found_as_made users journal legal offer.place coupling now

    one : (other : Standing) → Contains (standing journal) other → other.place ≡ offer.place → other ≡ offer
    one other there same = same_by_place (standing journal) other offer (places_ascend journal) there has same

    of_a : Control
    of_a = vector_of journal coupling.a

    of_b : Control
    of_b = vector_of journal coupling.b

    by_side : combined (vector_of journal offer) (partners_vector journal offer.place (Some coupling)) ≡ in_view (side_at coupling offer.place) (combined of_a of_b)
    by_side = elim (cases_Bool (eqb coupling.a.place offer.place)) [
      | inl low ↦ rw low (ap (λ (o : Standing). combined (vector_of journal o) of_b) (sym (one coupling.a is.has_a (eqb-true coupling.a.place offer.place low))))
      | inr not_low ↦ elim is.here [
        | inl low ↦ absurd (eqb-false coupling.a.place offer.place not_low low)
        | inr high ↦ rw not_low (ap (λ (o : Standing). combined (vector_of journal o) of_a) (sym (one coupling.b is.has_b high)) ∙ sym (joined_alike of_a of_b))
      ]
    ]
