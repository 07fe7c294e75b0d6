-- Accesses, entry by entry.
use Rattle.std.proofs.Common.{◌≡◌, refl, sym, ap, ◌∙◌, subst, ℕ, ◌+◌, ◌<◌, ◌≤◌, Bool, true, false, eqb, ltb, leb, List, [], ◌∷◌, ◌++◌, length, Option, Some, None, ◌⊎◌, inl, inr, arith}
use Rattle.std.specs.Prelude.{◌↔◌, Contains, option_map, is_some, IsTrue}
use Rattle.std.specs.List.{flat_map}
use Rattle.std.proofs.lemmas.Bool.{cases_Bool, eqb-true, eq-eqb, lt-ltb, le-ltb, or_cases, or_left, or_right, leb-true, le-leb}
use Rattle.std.proofs.lemmas.Cmp.{nat_list_eq_equiv}
use Rattle.std.proofs.lemmas.List.{length-append, append_assoc}
use Rattle.std.proofs.lemmas.List.Elements.{All-head, All-tail, Contains-append_cases, Contains-append_right}
use Rattle.std.proofs.lemmas.Option.{cond_some, same_Some, none-some}
use Rattle.sv_offer_laws.proofs.OwnLemmas.{same_name-is}
use Rattle.apl_arrays.specs.Array.{PlainArray}
use Rattle.sv_access.specs.Access.{Access}
use Rattle.sv_access.specs.declared.access.Side.{Side}
use Rattle.sv_access.specs.declared.access.Side.TheVariants.{A, B}
use Rattle.sv_access.specs.declared.access.Kind.{Kind}
use Rattle.sv_access.specs.declared.access.Kind.TheVariants as kind
use Rattle.sv_access.specs.Story.{Story}
use Rattle.sv_events.specs.Answer.{PlainAnswer, granted, value}
use Rattle.sv_events.specs.Entry.{PlainEntry}
use Rattle.sv_events.specs.declared.event.Act.{Act}
use Rattle.sv_events.specs.declared.event.Act.TheVariants.{Set, Use}
use Rattle.sv_rules.specs.declared.standing.Standing.{Standing}
use Rattle.sv_rules.specs.declared.coupling.Coupling.{Coupling}
use Rattle.apl_arrays.specs.Name.{same_name}
use Rattle.sv_rules.specs.Entries.{Entries, next_place, kind_of, is_granted, value_got, counted_entries, held_elements, is_full}
use Rattle.sv_rules.specs.Story.{GrantedAccess, access_to, access_on, known, handed_in, story_part, opens_at, opening, first_set, giver_story, story}
use Rattle.sv_story_laws.specs.StoryLaws.{IsAccessTo, IsAccessOn, HasNoAccess, OpensNever, offer_on, accesses_of}
use Rattle.sv_offer_laws.proofs.Members.{Contains-head, Contains-cons_cases}
use Rattle.sv_story_laws.proofs.StoryLemmas.{story-opening}

granted-is : (answer : PlainAnswer) → is_granted (kind_of answer) ≡ true → answer ≡ granted
granted-is granted h = refl
granted-is _ h = cc

got-is : (answer : PlainAnswer) (v : PlainArray) → value_got answer ≡ Some v → answer ≡ value v
got-is (value got) v h = ap value (same_Some got v h)
got-is _ v h = cc

-- an access that an act and its answer make
IsAccessTo-from_access : (local : List ℕ) (answer : PlainAnswer) (act : Act) (access : GrantedAccess) → access_to local answer act ≡ Some access → IsAccessTo local access.kind access.value act answer
IsAccessTo-from_access local answer (Set name new) access h = elim (cases_Bool (same_name name local)) [
  | inl same ↦
      let parts = cond_some (is_granted (kind_of answer)) _ access (rw same at h) in
      subst (λ (p : GrantedAccess). IsAccessTo local p.kind p.value (Set name new) answer) parts.1
      (ap (λ n. Set n new) (same_name-is name local same), granted-is answer parts.0)
  | inr other ↦ absurd (none-some access (rw other at h))
]
IsAccessTo-from_access local answer (Use name) access h = elim (cases_Bool (same_name name local)) [
  | inl same ↦ with_value (ap Use (same_name-is name local same)) (value_got answer) refl (rw same at h)
  | inr other ↦ absurd (none-some access (rw other at h))
]
  where
    with_value : Use name ≡ Use local → (got : Option PlainArray) → value_got answer ≡ got → option_map (λ v. let p : GrantedAccess = record { kind = kind.Use; value = v } in p) got ≡ Some access →
        IsAccessTo local access.kind access.value (Use name) answer
    with_value same None none k = absurd (none-some access k)
    with_value same (Some v) some k = subst (λ (p : GrantedAccess). IsAccessTo local p.kind p.value (Use name) answer) (same_Some _ access k) (same, got-is answer v some)
IsAccessTo-from_access local answer _ access h = absurd (none-some access h)

access_to-from_IsAccessTo : (local : List ℕ) (answer : PlainAnswer) (act : Act) (kind : Kind) (v : PlainArray) → IsAccessTo local kind v act answer →
    access_to local answer act ≡ Some (record { kind = kind; value = v })
access_to-from_IsAccessTo local answer act kind.Set v h = rw (h.0, h.1, nat_list_eq_equiv.refl local) refl
access_to-from_IsAccessTo local answer act kind.Use v h = rw (h.0, h.1, nat_list_eq_equiv.refl local) refl

pub IsAccessOn-from_access : (offer : Standing) (e : PlainEntry) (access : GrantedAccess) → access_on offer e ≡ Some access → IsAccessOn offer e access
IsAccessOn-from_access offer e access h = elim (cases_Bool (eqb e.party offer.party)) [
  | inl own ↦ (eqb-true _ _ own, IsAccessTo-from_access offer.local e.answer e.act access (rw own at h))
  | inr others ↦ absurd (none-some access (rw others at h))
]

pub access_on-from_IsAccessOn : (offer : Standing) (e : PlainEntry) (access : GrantedAccess) → IsAccessOn offer e access → access_on offer e ≡ Some access
access_on-from_IsAccessOn offer e access h =
    let own : eqb e.party offer.party ≡ true = eq-eqb _ _ h.0 in
    rw own (access_to-from_IsAccessTo offer.local e.answer e.act access.kind access.value h.1)

-- an entry that is no access on the offer
access_on-None : (offer : Standing) (e : PlainEntry) → ((access : GrantedAccess) → IsAccessOn offer e access → ⊥) → access_on offer e ≡ None
access_on-None offer e none = by (access_on offer e) refl
  where
    by : (got : Option GrantedAccess) → access_on offer e ≡ got → got ≡ None
    by None h = refl
    by (Some access) h = absurd (none access (IsAccessOn-from_access offer e access h))

-- accesses by others change nothing of the known value
known_past : (offer : Standing) (later : Entries) (before : Entries) → offer.place ≤ length before → HasNoAccess offer later → known (later ++ before) offer ≡ known before offer
known_past offer [] before early none = refl
known_past offer (e ∷ later) before early none =
    let P : PlainEntry → Type 0 = λ (f : PlainEntry). (access : GrantedAccess) → ¬ IsAccessOn offer f access in
    let early_later : ltb offer.place (length (later ++ before) + 1) ≡ true = lt-ltb _ _ (omega (arith, length-append later before)) in
    rw (early_later, access_on-None offer e (All-head P e later none)) (known_past offer later before early (All-tail P e later none))

-- the access itself gives its value
known_at : (offer : Standing) (e : PlainEntry) (before : Entries) (access : GrantedAccess) → offer.place ≤ length before → IsAccessOn offer e access → known (e ∷ before) offer ≡ Some access.value
known_at offer e before access early h =
    let early_now : ltb offer.place (length before + 1) ≡ true = lt-ltb _ _ (omega arith) in
    rw (early_now, access_on-from_IsAccessOn offer e access h) refl

known_offered : (offer : Standing) (offered : PlainEntry) (before : Entries) → offer.place ≡ next_place before → known (offered ∷ before) offer ≡ handed_in offered.act
known_offered offer offered before at =
    let not_after : ltb offer.place (length before + 1) ≡ false = le-ltb _ _ (omega arith) in rw not_after refl

pub known_is_the_last_access : (offer : Standing) (before : Entries) (offered : PlainEntry) (between : Entries) (e : PlainEntry) (later : Entries) (access : GrantedAccess) →
    offer.place ≡ next_place before → IsAccessOn offer e access → HasNoAccess offer later → known (later ++ e ∷ (between ++ offered ∷ before)) offer ≡ Some access.value
known_is_the_last_access offer before offered between e later access at h none =
    let size : length (between ++ offered ∷ before) ≡ length between + length (offered ∷ before) = length-append between (offered ∷ before) in
    known_past offer later (e ∷ (between ++ offered ∷ before)) (omega arith) none ∙ known_at offer e (between ++ offered ∷ before) access (omega arith) h

pub known_is_handed_in : (offer : Standing) (before : Entries) (offered : PlainEntry) (later : Entries) →
    offer.place ≡ next_place before → HasNoAccess offer later → known (later ++ offered ∷ before) offer ≡ handed_in offered.act
known_is_handed_in offer before offered later at none =
    known_past offer later (offered ∷ before) (omega arith) none ∙ known_offered offer offered before at

story_part_cases : (side : Side) (got : Option GrantedAccess) (access : Access PlainArray) → Contains (story_part side got) access → (access.side ≡ side) × (got ≡ Some (record { kind = access.kind; value = access.value }))
story_part_cases side None access h = absurd (omega (arith, h.1))
story_part_cases side (Some p) access h =
    let made : Access PlainArray = record { side = side; kind = p.kind; value = p.value } in
    elim (Contains-cons_cases made [] access h) [
      | inl same ↦ (ap (λ (a : Access PlainArray). a.side) (sym same), ap (λ (a : Access PlainArray). let q : GrantedAccess = record { kind = a.kind; value = a.value } in Some q) same)
      | inr none ↦ absurd (omega (arith, none.1))
    ]

-- the access that an entry makes on the offer of a side
story_part_on : (coupling : Coupling) (e : PlainEntry) (side : Side) (access : Access PlainArray) → Contains (story_part side (access_on (offer_on coupling side) e)) access →
    IsAccessOn (offer_on coupling access.side) e (record { kind = access.kind; value = access.value })
story_part_on coupling e side access h =
    let parts = story_part_cases side (access_on (offer_on coupling side) e) access h in
    let got : GrantedAccess = record { kind = access.kind; value = access.value } in
    subst (λ s. IsAccessOn (offer_on coupling s) e got) (sym parts.0) (IsAccessOn-from_access (offer_on coupling side) e got parts.1)

has_story_part : (coupling : Coupling) (e : PlainEntry) (side : Side) (kind : Kind) (v : PlainArray) → IsAccessOn (offer_on coupling side) e (record { kind = kind; value = v }) →
    Contains (accesses_of coupling e) (record { side = side; kind = kind; value = v })
has_story_part coupling e A kind v h =
    rw (access_on-from_IsAccessOn coupling.a e (record { kind = kind; value = v }) h) (Contains-head _ (story_part B (access_on coupling.b e)))
has_story_part coupling e B kind v h =
    let access : Access PlainArray = record { side = B; kind = kind; value = v } in
    Contains-append_right (story_part A (access_on coupling.a e)) (story_part B (access_on coupling.b e)) access
    (rw (access_on-from_IsAccessOn coupling.b e (record { kind = kind; value = v }) h) (Contains-head access []))

pub sides_are_offers : (coupling : Coupling) (e : PlainEntry) (access : Access PlainArray) →
    Contains (accesses_of coupling e) access ↔ IsAccessOn (offer_on coupling access.side) e (record { kind = access.kind; value = access.value })
sides_are_offers coupling e access = (
  (λ h. elim (Contains-append_cases (story_part A (access_on coupling.a e)) (story_part B (access_on coupling.b e)) access h) [
    | inl by_a ↦ story_part_on coupling e A access by_a
    | inr by_b ↦ story_part_on coupling e B access by_b
  ]),
  has_story_part coupling e access.side access.kind access.value,
)

pub story_is_opening_and_accesses : (coupling : Coupling) (before : Entries) (later : Entries) → 0 < length before → coupling.at ≡ length before →
    story (later ++ before) coupling ≡ flat_map (accesses_of coupling) later ++ giver_story before coupling (known before coupling.a)
story_is_opening_and_accesses coupling before [] some at = story-opening before coupling some (omega arith)
story_is_opening_and_accesses coupling before (e ∷ later) some at =
    let later_than : ltb coupling.at (length (later ++ before) + 1) ≡ true = lt-ltb _ _ (omega (arith, length-append later before)) in
    rw (later_than, story)
    (ap (λ s. accesses_of coupling e ++ s) (story_is_opening_and_accesses coupling before later some at)
    ∙ sym (append_assoc (accesses_of coupling e) (flat_map (accesses_of coupling) later) (giver_story before coupling (known before coupling.a))))

-- the giver is A where A knows a value, else B
pub giver_knows : (before : Entries) (coupling : Coupling) →
    (IsTrue (is_some (known before coupling.a)) → giver_story before coupling (known before coupling.a) ≡ opening A before coupling.a)
    × (known before coupling.a ≡ None → giver_story before coupling (known before coupling.a) ≡ opening B before coupling.b)
giver_knows before coupling = by (known before coupling.a)
  where
    by : (got : Option PlainArray) →
        (IsTrue (is_some got) → giver_story before coupling got ≡ opening A before coupling.a)
        × (got ≡ None → giver_story before coupling got ≡ opening B before coupling.b)
    by None = ((λ h. cc), (λ h. refl))
    by (Some got) = ((λ h. refl), (λ h. cc))

-- an opening, and the accesses since
pub opening_is_known_and_accesses : (side : Side) (offer : Standing) (before : Entries) (e : PlainEntry) (later : Entries) →
    IsTrue (opens_at e before offer) → OpensNever offer later (e ∷ before) →
    opening side (later ++ e ∷ before) offer ≡
    flat_map (λ after. story_part side (access_on offer after)) later ++ first_set side (known (e ∷ before) offer)
opening_is_known_and_accesses side offer before e [] opens never = rw (opens, opening) refl
opening_is_known_and_accesses side offer before e (l ∷ later) opens never =
    let part : PlainEntry → Story PlainArray = λ (after : PlainEntry). story_part side (access_on offer after) in
    let stays : opens_at l (later ++ e ∷ before) offer ≡ false = not_true _ (never [] l later refl) in
    rw (stays, opening)
    (ap (λ s. part l ++ s) (opening_is_known_and_accesses side offer before e later opens (λ newer f older same. never (l ∷ newer) f older (ap (λ (es : Entries). l ∷ es) same)))
    ∙ sym (append_assoc (part l) (flat_map part later) (first_set side (known (e ∷ before) offer))))
  where
    not_true : (b : Bool) → ¬ IsTrue b → b ≡ false
    not_true false h = refl
    not_true true h = absurd (h refl)

pub full_is : (journal : Entries) → IsTrue (is_full journal) ↔ ((200000 ≤ counted_entries journal) ⊎ (4194304 ≤ held_elements journal))
full_is journal = (
  (λ h. elim (or_cases (leb 200000 (counted_entries journal)) (leb 4194304 (held_elements journal)) h) [
    | inl entries ↦ inl (leb-true 200000 (counted_entries journal) entries)
    | inr elements ↦ inr (leb-true 4194304 (held_elements journal) elements)
  ]),
  λ h. elim h [
    | inl entries ↦ or_left _ _ (le-leb 200000 (counted_entries journal) entries)
    | inr elements ↦ or_right _ _ (le-leb 4194304 (held_elements journal) elements)
  ],
)
