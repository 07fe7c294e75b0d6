-- Offers by the parties that made them, with one more and with one fewer.
use Rattle.std.proofs.Common.{◌≡◌, refl, sym, ap, ap₂, ◌∙◌, subst, ℕ, ◌<◌, ◌≤◌, ◌^◌, Bool, true, false, not, ◌&&◌, ◌||◌, ◌⊎◌, cond, eqb, List, [], ◌∷◌, ◌++◌, Option, map, inl, inr}
use Rattle.std.specs.Bool.{OnFalse, OnTrue}
use Rattle.std.specs.List.{filter, list_any}
use Rattle.std.specs.Prelude.{All, Contains, is_some}
use Rattle.std.specs.Ordering.{is_eq}
use Rattle.std.proofs.Math.Bool.{and-false, and-true, or_comm, or-false}
use Rattle.std.proofs.lemmas.Bool.{and_from, and_parts, cases_Bool, eq-eqb, eqb-true, ne_eqb, not-true}
use Rattle.std.specs.Option.{IsSomeAnd}
use Rattle.std.proofs.lemmas.List.Elements.{All-contains, All-contains_itself, All-filter, All-map, All-weaker, filter_passes}
use Rattle.std.proofs.lemmas.List.Folds.{Any-from_list_any, list_any-append, list_any_none}
use Rattle.sv_offer_laws.proofs.LookupLemmas.{find_is}
use Rattle.sv_offer_laws.proofs.Members.{list_any_member}
use Rattle.sv_offers.proofs.KeyLemmas.{keys_tie}
use Rattle.sv_offers.proofs.PlaceLemmas.{found_elsewhere}
use Rattle.sv_offers.specs.Places.{ByPlace, without_place}
use Rattle.sv_offers.specs.Senders.{is_party_above, is_sent, key_order}
use Rattle.sv_offers.specs.Table.{is_open_by, is_open_to}
use Rattle.sv_rules.specs.Coupling.{is_coupled}
use Rattle.sv_rules.specs.declared.coupling.Made.{Made}
use Rattle.sv_rules.specs.declared.standing.Standing.{Standing}

-- a key of an offer ties with that of a party, another and a place where the offer is to the one from the other at this place
pub own_tie : (key : ℕ × ℕ × ℕ) (offer : Standing) (to from place : ℕ) → key ≡ (offer.to, offer.party, offer.place) → is_eq (key_order key (to, from, place)) ≡ is_sent to from place offer
own_tie key offer to from place is =
    ap (λ (k : ℕ × ℕ × ℕ). is_eq (key_order k (to, from, place))) is ∙ keys_tie (offer.to, offer.party, offer.place) (to, from, place)

-- what one key more adds, and one fewer takes away
pub one_or_more : (b c : Bool) → cond b true c ≡ (b || c)
one_or_more true c = refl
one_or_more false c = refl

pub all_but_one : (b c : Bool) → cond b false c ≡ (not b && c)
all_but_one true c = refl
all_but_one false c = refl

-- of the offers that are left some offer passes, unless only the one that went did
pub left_sent : (offers : List Standing) (gone : Standing) (to from place : ℕ) → ByPlace offers → Contains offers gone →
    (not (is_sent to from place gone) && list_any (is_sent to from place) offers) ≡ list_any (is_sent to from place) (without_place offers gone.place)
left_sent offers gone to from place by_place there = elim (cases_Bool (sent gone)) [
  | inl here ↦
      let at : gone.place ≡ place = eqb-true gone.place place (and_parts (eqb gone.to to && eqb gone.party from) (eqb gone.place place) here).1 in
      rw here (sym (list_any_none sent (without_place offers gone.place) (All-weaker (λ o. not (eqb o.place gone.place) ≡ true) (λ o. sent o ≡ false) (λ o other. elsewhere o at other) (without_place offers gone.place) (filter_passes (λ o. not (eqb o.place gone.place)) offers))))
  | inr others ↦
      rw others (sym (find_is sent offers) ∙ ap is_some (sym (found_elsewhere sent offers gone by_place there others)) ∙ find_is sent (without_place offers gone.place))
]
  where
    sent : Standing → Bool
    sent = is_sent to from place

    elsewhere : (o : Standing) → gone.place ≡ place → not (eqb o.place gone.place) ≡ true → sent o ≡ false
    elsewhere o at other = ap (λ b. (eqb o.to to && eqb o.party from) && b) (ne_eqb o.place place (λ same. let here : eqb o.place gone.place ≡ true = eq-eqb o.place gone.place (same ∙ sym at) in cc)) ∙ and-false (eqb o.to to && eqb o.party from)

-- one offer more
pub more_sent : (offers : List Standing) (new : Standing) (to from place : ℕ) →
    (is_sent to from place new || list_any (is_sent to from place) offers) ≡ list_any (is_sent to from place) (offers ++ new ∷ [])
more_sent offers new to from place =
    or_comm (is_sent to from place new) (list_any (is_sent to from place) offers)
    ∙ ap (λ b. list_any (is_sent to from place) offers || b) (sym (or-false (is_sent to from place new)))
    ∙ sym (list_any-append (is_sent to from place) offers (new ∷ []))

-- an offer is to its party from its own, at its place
pub own_sent : (offers : List Standing) (offer : Standing) → Contains offers offer → list_any (is_sent offer.to offer.party offer.place) offers ≡ true
own_sent offers offer there =
    list_any_member (is_sent offer.to offer.party offer.place) offers offer
    (and_from (eqb offer.to offer.to && eqb offer.party offer.party) (eqb offer.place offer.place)
    (and_from (eqb offer.to offer.to) (eqb offer.party offer.party) (eq-eqb offer.to offer.to refl) (eq-eqb offer.party offer.party refl)) (eq-eqb offer.place offer.place refl)) there

-- who made one at a place made one
pub some_sent : (offers : List Standing) (to from place : ℕ) → list_any (is_sent to from place) offers ≡ true → list_any (λ offer. eqb offer.to to && eqb offer.party from) offers ≡ true
some_sent offers to from place sent =
    let found = Any-from_list_any (is_sent to from place) offers sent in
    list_any_member (λ (o : Standing). eqb o.to to && eqb o.party from) offers found.1
    (and_parts (eqb found.1.to to && eqb found.1.party from) (eqb found.1.place place) found.4).0 (found.0, found.2, found.3)

-- what is no higher than any party that the set has is no higher than any that made one of the offers
pub lowest_sender : (offers : List Standing) (to : ℕ) (last next : Option ℕ) →
    ((from place : ℕ) → is_party_above last from ≡ true → list_any (is_sent to from place) offers ≡ true → IsSomeAnd next (λ n. n ≤ from)) →
    All (λ offer. offer.to ≡ to → is_party_above last offer.party ≡ true → IsSomeAnd next (λ n. n ≤ offer.party)) offers
lowest_sender offers to last next lowest =
    All-weaker (Contains offers) (λ offer. offer.to ≡ to → is_party_above last offer.party ≡ true → IsSomeAnd next (λ n. n ≤ offer.party))
    (λ offer there same above. lowest offer.party offer.place above (subst (λ (n : ℕ). list_any (is_sent n offer.party offer.place) offers ≡ true) same (own_sent offers offer there)))
    offers (All-contains_itself offers)

-- whether the set has an open offer is whether some of the offers is one
open_parts : (coupled : List Made) (to from : ℕ) (offer : Standing) → is_open_by coupled to from offer ≡ true →
    (offer.party ≡ from) × (offer.to ≡ to) × (is_coupled coupled offer.place ≡ false)
open_parts coupled to from offer open' =
    let parts = and_parts (eqb offer.party from) (is_open_to coupled to offer) open' in
    let more = and_parts (eqb offer.to to) (not (is_coupled coupled offer.place)) parts.1 in
    (eqb-true offer.party from parts.0, eqb-true offer.to to more.0, not-true (is_coupled coupled offer.place) more.1)

open_is_sent : (offers : List Standing) (coupled : List Made) (to from place : ℕ) → list_any (is_sent to from place) offers ≡ true → is_coupled coupled place ≡ false →
    list_any (is_open_by coupled to from) offers ≡ true
open_is_sent offers coupled to from place sent open' =
    let found = Any-from_list_any (is_sent to from place) offers sent in
    let offer : Standing = found.1 in
    let parts = and_parts (eqb offer.to to && eqb offer.party from) (eqb offer.place place) found.4 in
    let ends = and_parts (eqb offer.to to) (eqb offer.party from) parts.0 in
    list_any_member (is_open_by coupled to from) offers offer
    (and_from (eqb offer.party from) (is_open_to coupled to offer) ends.1
    (and_from (eqb offer.to to) (not (is_coupled coupled offer.place)) ends.0 (ap not (ap (is_coupled coupled) (eqb-true offer.place place parts.1) ∙ open'))))
    (found.0, found.2, found.3)

none_open : (offers : List Standing) (coupled : List Made) (to from : ℕ) → All (λ offer. offer.place < 2 ^ 64) offers →
    ((place : ℕ) → place < 2 ^ 64 → list_any (is_sent to from place) offers ≡ true → is_coupled coupled place ≡ true) → list_any (is_open_by coupled to from) offers ≡ false
none_open offers coupled to from fits closed =
    list_any_none (is_open_by coupled to from) offers
    (All-weaker (Contains offers) (λ offer. is_open_by coupled to from offer ≡ false) (λ offer there. by offer there (cases_Bool (is_open_by coupled to from offer))) offers (All-contains_itself offers))
  where
    by : (offer : Standing) → Contains offers offer → ((is_open_by coupled to from offer ≡ true) ⊎ (is_open_by coupled to from offer ≡ false)) → is_open_by coupled to from offer ≡ false
    by offer there (inr not_open) = not_open
    by offer there (inl open') =
        let parts = open_parts coupled to from offer open' in
        let sent : list_any (is_sent to from offer.place) offers ≡ true =
        ap₂ (λ (t f : ℕ). list_any (is_sent t f offer.place) offers) (sym parts.1) (sym parts.0) ∙ own_sent offers offer there in
        let coupled' = closed offer.place (All-contains (λ (o : Standing). o.place < 2 ^ 64) offers offer fits there) sent in
        cc

pub open_by_set : (offers : List Standing) (coupled : List Made) (to from : ℕ) (b : Bool) → All (λ offer. offer.place < 2 ^ 64) offers →
    OnTrue b ((place : ℕ) × (list_any (is_sent to from place) offers ≡ true) × (is_coupled coupled place ≡ false)) →
    OnFalse b ((place : ℕ) → place < 2 ^ 64 → list_any (is_sent to from place) offers ≡ true → is_coupled coupled place ≡ true) → b ≡ list_any (is_open_by coupled to from) offers
open_by_set offers coupled to from true fits some none = sym (open_is_sent offers coupled to from some.0 some.1 some.2)
open_by_set offers coupled to from false fits some none = sym (none_open offers coupled to from fits none)

-- the parties of the open offers to a party: whether one is among them, and that a number up to them is so of each
pub has_party : (offers : List Standing) (coupled : List Made) (to from : ℕ) →
    list_any (is_open_by coupled to from) offers ≡ list_any (λ n. eqb n from) (map (λ o. o.party) (filter (is_open_to coupled to) offers))
has_party [] coupled to from = refl
has_party (offer ∷ offers) coupled to from = by (is_open_to coupled to offer) (has_party offers coupled to from)
  where
    by : (b : Bool) → list_any (is_open_by coupled to from) offers ≡ list_any (λ n. eqb n from) (map (λ o. o.party) (filter (is_open_to coupled to) offers)) →
        ((eqb offer.party from && b) || list_any (is_open_by coupled to from) offers)
        ≡ list_any (λ n. eqb n from) (map (λ o. o.party) (cond b (offer ∷ filter (is_open_to coupled to) offers) (filter (is_open_to coupled to) offers)))
    by true rest = ap₂ (λ (b c : Bool). b || c) (and-true (eqb offer.party from)) rest
    by false rest = ap (λ b. b || list_any (is_open_by coupled to from) offers) (and-false (eqb offer.party from)) ∙ rest

pub lowest_open : (offers : List Standing) (coupled : List Made) (to : ℕ) (last next : Option ℕ) →
    All (λ offer. offer.to ≡ to → is_party_above last offer.party ≡ true → IsSomeAnd next (λ n. n ≤ offer.party)) offers →
    All (λ party. is_party_above last party ≡ true → IsSomeAnd next (λ n. n ≤ party)) (map (λ o. o.party) (filter (is_open_to coupled to) offers))
lowest_open offers coupled to last next lowest =
    All-map (λ party. is_party_above last party ≡ true → IsSomeAnd next (λ n. n ≤ party)) (λ (o : Standing). o.party) (filter (is_open_to coupled to) offers)
    (All-weaker (λ offer. (offer.to ≡ to → is_party_above last offer.party ≡ true → IsSomeAnd next (λ n. n ≤ offer.party)) × (is_open_to coupled to offer ≡ true))
    (λ offer. is_party_above last offer.party ≡ true → IsSomeAnd next (λ n. n ≤ offer.party))
    (λ offer h. h.0 (eqb-true offer.to to (and_parts (eqb offer.to to) (not (is_coupled coupled offer.place)) h.1).0))
    (filter (is_open_to coupled to) offers)
    (λ k d within. (All-filter (is_open_to coupled to) (λ offer. offer.to ≡ to → is_party_above last offer.party ≡ true → IsSomeAnd next (λ n. n ≤ offer.party)) offers lowest k d within, filter_passes (is_open_to coupled to) offers k d within)))
