-- Slots of couplings.
use Rattle.std.proofs.Common.{◌≡◌, refl, sym, ap, subst, ◌∙◌, ℕ, zero, suc, ◌-◌, ◌<◌, ◌≤◌, Bool, true, false, not, cond, List, [], ◌∷◌, ◌++◌, length, get_or, filter, Option, Some, None, inl, inr, arith}
use Rattle.std.proofs.Math.ListN.{set}
use Rattle.std.specs.Prelude.{All, Contains, count_by, is_some, option_to_list}
use Rattle.std.specs.List.{cons_option, remove, slice_get}
use Rattle.std.specs.Option.{is_none, option_map_or}
use Rattle.std.proofs.lemmas.List.{append-nil, get_or_push, length_push, length-set}
use Rattle.std.proofs.lemmas.List.Elements.{All-head, All-tail, filter_map-append}
use Rattle.std.proofs.lemmas.Option.{none-some, same_Some, slice_get-get_or}
use Rattle.sv_events.specs.declared.entry.Pair.{Pair}
use Rattle.sv_offer_laws.proofs.Members.{Contains-behind, Contains-cons_cases, Contains-head}
use Rattle.sv_offers.proofs.OnlyLemmas.{only_out}
use Rattle.sv_offers.specs.Slots.{SlotsByMaking, coupling_in, couplings_in, ends_empty, slot_of}
use Rattle.sv_offers.specs.declared.slots.Slot.{Slot}
use Rattle.sv_rules.specs.declared.coupling.Made.{Made}

-- a slot that has a coupling is that coupling's
slot_has : (at : ℕ) (pair : Option Pair) (made : Made) → coupling_in (record { at = at; pair = pair }) ≡ Some made →
    (let slot : Slot = record { at = at; pair = pair } in slot) ≡ slot_of made
slot_has at None made has = absurd (none-some made has)
slot_has at (Some pair) made has = ap slot_of (same_Some (record { pair = pair; at = at }) made has)

pub slot_there : (slots : List Slot) (made : Made) → Contains (couplings_in slots) made → Contains slots (slot_of made)
slot_there [] made there = absurd (omega (arith, there.1))
slot_there (slot ∷ slots) made there = by (λ behind. Contains-behind slot slots (slot_of made) (slot_there slots made behind)) (coupling_in slot) refl there
  where
    by : (Contains (couplings_in slots) made → Contains (slot ∷ slots) (slot_of made)) → (held : Option Made) → coupling_in slot ≡ held → Contains (cons_option held (couplings_in slots)) made →
        Contains (slot ∷ slots) (slot_of made)
    by later None none among = later among
    by later (Some first) some among = elim (Contains-cons_cases first (couplings_in slots) made among) [
      | inl here ↦ subst (λ (s : Slot). Contains (slot ∷ slots) s) (slot_has slot.at slot.pair made (some ∙ ap Some here)) (Contains-head slot slots)
      | inr behind ↦ later behind
    ]

-- the coupling whose slot is emptied is taken out
emptied : (slots : List Slot) (i at : ℕ) (d : Slot) (made : Made) → i < length slots → get_or slots i d ≡ slot_of made →
    (k : ℕ) × (k < length (couplings_in slots)) × (get_or (couplings_in slots) k made ≡ made) × (couplings_in (set slots i (record { at = at; pair = None })) ≡ remove (couplings_in slots) k)
emptied [] i at d made within here = absurd (omega arith)
emptied (slot ∷ slots) zero at d made within here =
    subst (λ (s : Slot). (k : ℕ) × (k < length (couplings_in (s ∷ slots))) × (get_or (couplings_in (s ∷ slots)) k made ≡ made) × (couplings_in slots ≡ remove (couplings_in (s ∷ slots)) k))
    (sym here) (0, omega arith, refl, refl)
emptied (slot ∷ slots) (suc i) at d made within here =
    let rest = emptied slots i at d made (omega (arith, within)) here in by rest (coupling_in slot)
  where
    gone : Slot
    gone = record { at = at; pair = None }

    by : (k : ℕ) × (k < length (couplings_in slots)) × (get_or (couplings_in slots) k made ≡ made) × (couplings_in (set slots i gone) ≡ remove (couplings_in slots) k) → (held : Option Made) →
        (k : ℕ) × (k < length (cons_option held (couplings_in slots))) × (get_or (cons_option held (couplings_in slots)) k made ≡ made) × (cons_option held (couplings_in (set slots i gone)) ≡ remove (cons_option held (couplings_in slots)) k)
    by rest None = rest
    by rest (Some first) = (suc rest.0, omega (arith, rest.1), rest.2, ap (λ ms. first ∷ ms) rest.3)

pub taken_out : (test : Made → Bool) (slots : List Slot) (i at : ℕ) (d : Slot) (made : Made) → i < length slots → get_or slots i d ≡ slot_of made → test made ≡ true →
    count_by test (couplings_in slots) ≤ 1 → couplings_in (set slots i (record { at = at; pair = None })) ≡ filter (λ m. not (test m)) (couplings_in slots)
taken_out test slots i at d made within here passes few =
    let gone = emptied slots i at d made within here in
    gone.3 ∙ only_out test (couplings_in slots) gone.0 made gone.1 (ap test gone.2 ∙ passes) few

-- the slots are still in order where one is emptied
same_at : (slots : List Slot) (i k : ℕ) (gone d : Slot) → i < length slots → gone.at ≡ (get_or slots i d).at → (get_or (set slots i gone) k d).at ≡ (get_or slots k d).at
same_at [] i k gone d within at = absurd (omega arith)
same_at (slot ∷ slots) zero zero gone d within at = at
same_at (slot ∷ slots) zero (suc k) gone d within at = refl
same_at (slot ∷ slots) (suc i) zero gone d within at = refl
same_at (slot ∷ slots) (suc i) (suc k) gone d within at = same_at slots i k gone d (omega (arith, within)) at

pub still_by_making : (slots : List Slot) (i : ℕ) (gone : Slot) → i < length slots → ((d : Slot) → gone.at ≡ (get_or slots i d).at) → SlotsByMaking slots → SlotsByMaking (set slots i gone)
still_by_making slots i gone within at by_making = λ a b d order inside.
    omega (arith, same_at slots i a gone d within (at d), same_at slots i b gone d within (at d), by_making a b d order (omega (arith, length-set slots i gone, inside)))

-- what the last slot has
none_held : (pair : Option Pair) → is_none pair ≡ true → pair ≡ None
none_held None none = refl
none_held (Some p) none = cc

pub popped : (old new : List Slot) (last : Option Slot) → old ≡ new ++ option_to_list last → ends_empty old ≡ true → couplings_in new ≡ couplings_in old
popped old new None is ends = ap couplings_in (sym (is ∙ append-nil new))
popped old new (Some slot) is ends =
    let all = new ++ slot ∷ [] in
    let longer = length_push new slot in
    let last = ap (slice_get all) (let at : length all - 1 ≡ length new = omega (arith, longer) in at)
    ∙ slice_get-get_or all (length new) slot (omega (arith, longer)) ∙ ap Some (get_or_push new slot slot (length new) refl) in
    let none = sym (ap (λ (o : Option Slot). option_map_or (λ s. is_none s.pair) o false) last) ∙ subst (λ (ss : List Slot). ends_empty ss ≡ true) is ends in
    let empty : slot.pair ≡ None = none_held slot.pair none in
    sym (ap couplings_in is ∙ filter_map-append coupling_in new (slot ∷ []) ∙ ap (λ (o : Option Pair). couplings_in new ++ couplings_in (record { at = slot.at; pair = o } ∷ [])) empty ∙ append-nil (couplings_in new))

-- what holds of all couplings holds of one in a slot
held_all : (P : Made → Type 0) (slots : List Slot) (k : ℕ) (d : Slot) (pair : Pair) → k < length slots → (get_or slots k d).pair ≡ Some pair → All P (couplings_in slots) →
    P (record { pair = pair; at = (get_or slots k d).at })
held_all P [] k d pair within some all = absurd (omega arith)
held_all P (slot ∷ slots) zero d pair within some all =
    All-head P (record { pair = pair; at = slot.at }) (couplings_in slots)
    (subst (λ (o : Option Pair). All P (couplings_in (record { at = slot.at; pair = o } ∷ slots))) some all)
held_all P (slot ∷ slots) (suc k) d pair within some all = held_all P slots k d pair (omega (arith, within)) some (by (coupling_in slot) all)
  where
    by : (held : Option Made) → All P (cons_option held (couplings_in slots)) → All P (couplings_in slots)
    by None rest = rest
    by (Some first) rest = All-tail P first (couplings_in slots) rest

-- behind a last slot that is not empty one goes that comes after all couplings
pub last_earlier : (slots : List Slot) (at : ℕ) (d : Slot) → ends_empty slots ≡ false → All (λ m. m.at ≤ at) (couplings_in slots) → 0 < length slots →
    (get_or slots (length slots - 1) d).at ≤ at
last_earlier slots at d ends earlier some = by (get_or slots (length slots - 1) d).pair refl
  where
    by : (pair : Option Pair) → (get_or slots (length slots - 1) d).pair ≡ pair → (get_or slots (length slots - 1) d).at ≤ at
    by None none =
        let last = ap (λ (o : Option Slot). option_map_or (λ slot. is_none slot.pair) o false) (slice_get-get_or slots (length slots - 1) d (omega arith)) in
        let is : is_none (get_or slots (length slots - 1) d).pair ≡ false = sym last ∙ ends in
        let no : true ≡ false = sym (ap is_none none) ∙ is in
        cc
    by (Some pair) held = held_all (λ (m : Made). m.at ≤ at) slots (length slots - 1) d pair (omega arith) held earlier

-- without the empty slots the couplings are the same
pub tidied : (slots : List Slot) → couplings_in (filter (λ slot. is_some slot.pair) slots) ≡ couplings_in slots
tidied [] = refl
tidied (slot ∷ slots) = by (tidied slots) slot.pair
  where
    left : List Slot
    left = filter (λ (s : Slot). is_some s.pair) slots

    by : couplings_in left ≡ couplings_in slots → (pair : Option Pair) →
        couplings_in (cond (is_some pair) (record { at = slot.at; pair = pair } ∷ left) left) ≡ couplings_in (record { at = slot.at; pair = pair } ∷ slots)
    by rest None = rest
    by rest (Some pair) = ap (λ (ms : List Made). record { pair = pair; at = slot.at } ∷ ms) rest
