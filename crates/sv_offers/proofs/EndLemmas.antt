-- What ends with one offer, and what this sets free.
use Rattle.std.proofs.Common.{◌≡◌, refl, sym, ap, ◌∙◌, ℕ, ◌<◌, ◌≤◌, Bool, true, false, not, ◌&&◌, ◌||◌, cond, eqb, List, [], ◌∷◌, get_or, filter, find, Option, Some, None, inl, inr, subst, arith}
use Rattle.std.specs.Prelude.{All, Contains, count_by, is_some, option_and_then}
use Rattle.std.specs.List.{list_any}
use Rattle.std.specs.Option.{option_or}
use Rattle.std.proofs.Math.Bool.{and-false}
use Rattle.std.proofs.lemmas.Bool.{and_from, both_ways, cases_Bool, eqb-true, eq-eqb, false_from_ne_true, not-true, or_cases, or_left, or_right}
use Rattle.std.proofs.lemmas.List.Elements.{All-contains_itself, All-weaker}
use Rattle.std.proofs.lemmas.List.Folds.{find-append, list_any-append}
use Rattle.std.proofs.lemmas.List.Kept.{AllPairs-filter}
use Rattle.sv_events.specs.declared.row.Ending.{Ending}
use Rattle.sv_offer_laws.proofs.LookupLemmas.{find_is}
use Rattle.sv_offer_laws.proofs.Members.{Contains-behind, Contains-from_filter, Contains-head, count_by-filter, filter_passed, filter_past_none, filter_same, filter_whole, find_passed, list_any_member}
use Rattle.sv_offer_laws.proofs.OwnLemmas.{find-filter}
use Rattle.sv_offer_laws.proofs.PlaceLemmas.{same_by_place}
use Rattle.sv_offers.proofs.FilterLemmas.{none_kept}
use Rattle.sv_offers.proofs.FindingLemmas.{none_from_test}
use Rattle.sv_offers.proofs.OnlyLemmas.{none_beside, only_between}
use Rattle.sv_offers.proofs.PlaceLemmas.{couplings_without, kept_elsewhere, passes_more}
use Rattle.sv_offers.specs.Places.{AreOnce, ByPlace, other_place, set_free, with_free, without_coupling, without_place}
use Rattle.sv_rules.specs.Coupling.{both_stand, couplings_among, has_place, is_coupled, kept_by_ending, offer_at, reopened_among, reopened_by_ending}
use Rattle.sv_rules.specs.Standing.{is_ended, without_ended}
use Rattle.sv_rules.specs.declared.coupling.Made.{Made}
use Rattle.sv_rules.specs.declared.standing.Standing.{Standing}

-- nothing is found where nothing passes
pub found_nowhere : {X : Type 0} (p : X → Bool) (xs : List X) → list_any p xs ≡ false → find p xs ≡ None
found_nowhere p xs none = none_from_test (find p xs) (find_is p xs ∙ none)

-- nor where a filter leaves out what passes
left_nowhere : {X : Type 0} (p keep : X → Bool) (xs : List X) → ((x : X) → Contains xs x → p x ≡ true → keep x ≡ false) → find p (filter keep xs) ≡ None
left_nowhere p keep [] goes = refl
left_nowhere p keep (x ∷ xs) goes =
    let rest = left_nowhere p keep xs (λ y has. goes y (Contains-behind x xs y has)) in
    elim (cases_Bool (keep x)) [
      | inl stays ↦
          let fails : p x ≡ false = false_from_ne_true (p x) (λ passes. both_ways (keep x) (goes x (Contains-head x xs) passes) stays) in
          rw (stays, fails) rest
      | inr gone ↦ rw gone rest
    ]

-- the offer at a place, where an act does not end it
pub left_none : (offers : List Standing) (place party : ℕ) (ending : Ending) → offer_at offers place ≡ None → None ≡ offer_at (without_ended offers party ending) place
left_none offers place party ending none =
    let at : Standing → Bool = λ (o : Standing). eqb o.place place in
    sym (left_nowhere at (λ o. not (is_ended party ending o)) offers
    (λ o has here. absurd (both_ways (list_any at offers) (sym (find_is at offers) ∙ ap is_some none) (list_any_member at offers o here has))))

pub left_ended : (offers : List Standing) (place party : ℕ) (ending : Ending) (offer : Standing) → ByPlace offers → offer_at offers place ≡ Some offer → is_ended party ending offer ≡ true →
    None ≡ offer_at (without_ended offers party ending) place
left_ended offers place party ending offer by_place found ends =
    let at : Standing → Bool = λ (o : Standing). eqb o.place place in
    let is = find_passed at offers offer found in
    sym (left_nowhere at (λ o. not (is_ended party ending o)) offers
    (λ o has here. ap (λ s. not (is_ended party ending s)) (same_by_place offers o offer by_place has is.1 (eqb-true o.place place here ∙ sym (eqb-true offer.place place is.0))) ∙ ap not ends))

pub left_standing : (offers : List Standing) (place party : ℕ) (ending : Ending) (offer : Standing) → offer_at offers place ≡ Some offer → is_ended party ending offer ≡ false →
    Some offer ≡ offer_at (without_ended offers party ending) place
left_standing offers place party ending offer found stays =
    sym (find-filter (λ (o : Standing). eqb o.place place) (λ o. not (is_ended party ending o)) offers offer found (ap not stays))

-- without an offer that ends the same is left
pub ended_first : (offers : List Standing) (party : ℕ) (ending : Ending) (offer : Standing) → ByPlace offers → Contains offers offer → is_ended party ending offer ≡ true →
    without_ended (without_place offers offer.place) party ending ≡ without_ended offers party ending
ended_first offers party ending offer by_place there ends = kept_elsewhere (λ o. not (is_ended party ending o)) offers offer by_place there (ap not ends)

-- no offer that is left has its place
pub left_elsewhere : (offers : List Standing) (party : ℕ) (ending : Ending) (offer other : Standing) → ByPlace offers → Contains offers offer → is_ended party ending offer ≡ true →
    Contains (without_ended offers party ending) other → other.place ≡ offer.place → ⊥
left_elsewhere offers party ending offer other by_place there ends left same =
    let stays : Standing → Bool = λ o. not (is_ended party ending o) in
    let is : other ≡ offer = same_by_place offers other offer by_place (Contains-from_filter stays offers other left) there same in
    both_ways (is_ended party ending other) (not-true _ (filter_passed stays offers other left)) (ap (λ o. is_ended party ending o) is ∙ ends)

-- where a coupling goes, what is coupled by it and what is not
gone_here : (coupled : List Made) (place : ℕ) (made : Made) → AreOnce coupled → find (has_place place) coupled ≡ Some made → (at : ℕ) → has_place at made ≡ true →
    (is_coupled coupled at ≡ true) × (is_coupled (without_coupling coupled place) at ≡ false)
gone_here coupled place made once found at here =
    let between = only_between (has_place place) coupled made found (once place) in
    let none = none_beside (has_place at) between.front made between.back here (subst (λ ms. count_by (has_place at) ms ≤ 1) between.whole (once at)) in (
      ap (list_any (has_place at)) between.whole ∙ none.0,
      ap (list_any (has_place at)) between.rest ∙ list_any-append (has_place at) between.front between.back ∙ ap (λ b. b || list_any (has_place at) between.back) none.1 ∙ none.2,
    )

kept_there : (coupled : List Made) (place : ℕ) (made : Made) → AreOnce coupled → find (has_place place) coupled ≡ Some made → (at : ℕ) → has_place at made ≡ false →
    is_coupled (without_coupling coupled place) at ≡ is_coupled coupled at
kept_there coupled place made once found at elsewhere =
    let between = only_between (has_place place) coupled made found (once place) in
    ap (list_any (has_place at)) between.rest ∙ list_any-append (has_place at) between.front between.back
    ∙ ap (λ b. list_any (has_place at) between.front || (b || list_any (has_place at) between.back)) (sym elsewhere)
    ∙ sym (list_any-append (has_place at) between.front (made ∷ between.back)) ∙ ap (list_any (has_place at)) (sym between.whole)

-- a coupling is found no more at the places of its offers, and the others as before
pub found_without : (coupled : List Made) (place : ℕ) (made : Made) → AreOnce coupled → find (has_place place) coupled ≡ Some made → (at : ℕ) →
    cond (has_place at made) None (find (has_place at) coupled) ≡ find (has_place at) (without_coupling coupled place)
found_without coupled place made once found at = elim (cases_Bool (has_place at made)) [
  | inl here ↦
      ap (λ b. cond b None (find (has_place at) coupled)) here
      ∙ sym (found_nowhere (has_place at) (without_coupling coupled place) (gone_here coupled place made once found at here).1)
  | inr elsewhere ↦
      let between = only_between (has_place place) coupled made found (once place) in
      ap (λ b. cond b None (find (has_place at) coupled)) elsewhere
      ∙ ap (find (has_place at)) between.whole ∙ find-append (has_place at) between.front (made ∷ between.back)
      ∙ ap (λ b. option_or (find (has_place at) between.front) (cond b (Some made) (find (has_place at) between.back))) elsewhere
      ∙ sym (find-append (has_place at) between.front between.back) ∙ ap (find (has_place at)) (sym between.rest)
]

-- the other place of a pair is in it, and is where an offer of it is that is not at the one
has_other : (place : ℕ) (made : Made) → has_place (other_place place made) made ≡ true
has_other place made = elim (cases_Bool (eqb made.pair.a place)) [
  | inl first ↦ rw first (or_right (eqb made.pair.a made.pair.b) (eqb made.pair.b made.pair.b) (eq-eqb made.pair.b made.pair.b refl))
  | inr second ↦ rw second (or_left (eqb made.pair.a made.pair.a) (eqb made.pair.b made.pair.a) (eq-eqb made.pair.a made.pair.a refl))
]

other_is : (place at : ℕ) (made : Made) → has_place place made ≡ true → has_place at made ≡ true → (at ≡ place → ⊥) → at ≡ other_place place made
other_is place at made here there apart = elim (cases_Bool (eqb made.pair.a place)) [
  | inl first ↦ rw first (elim (or_cases (eqb made.pair.a at) (eqb made.pair.b at) there) [
    | inl a ↦ absurd (apart (sym (eqb-true made.pair.a at a) ∙ eqb-true made.pair.a place first))
    | inr b ↦ sym (eqb-true made.pair.b at b)
  ])
  | inr second ↦ rw second (elim (or_cases (eqb made.pair.a at) (eqb made.pair.b at) there) [
    | inl a ↦ sym (eqb-true made.pair.a at a)
    | inr b ↦ elim (or_cases (eqb made.pair.a place) (eqb made.pair.b place) here) [
      | inl first ↦ absurd (both_ways (eqb made.pair.a place) second first)
      | inr also ↦ absurd (apart (sym (eqb-true made.pair.b at b) ∙ eqb-true made.pair.b place also))
    ]
  ])
]

-- an offer is one of those reopened: coupled before, and not now
abbrev pub is_reopened : List Made → List Made → Standing → Bool
is_reopened before now offer = is_coupled before offer.place && not (is_coupled now offer.place)

-- where a coupling goes, the offers that are left reopen the one at its other place, if there is one
reopened_by_one : (left : List Standing) (before coupled : List Made) (place : ℕ) (made : Made) → ByPlace left → ((other : Standing) → Contains left other → other.place ≡ place → ⊥) →
    AreOnce coupled → find (has_place place) coupled ≡ Some made → is_coupled before (other_place place made) ≡ true →
    reopened_among left before (without_coupling coupled place) ≡ with_free (reopened_among left before coupled) (offer_at left (other_place place made))
reopened_by_one left before coupled place made by_place elsewhere once found was = by (offer_at left (other_place place made)) refl
  where
    at_one : has_place place made ≡ true
    at_one = (find_passed (has_place place) coupled made found).0

    same : (other : Standing) → Contains left other → (other.place ≡ other_place place made → ⊥) → is_reopened before (without_coupling coupled place) other ≡ is_reopened before coupled other
    same other has apart =
        let no : has_place other.place made ≡ false =
        false_from_ne_true (has_place other.place made) (λ here. apart (other_is place other.place made at_one here (elsewhere other has))) in
        ap (λ b. is_coupled before other.place && not b) (kept_there coupled place made once found other.place no)

    by : (free : Option Standing) → offer_at left (other_place place made) ≡ free → reopened_among left before (without_coupling coupled place) ≡ with_free (reopened_among left before coupled) free
    by None none =
        let at : Standing → Bool = λ (o : Standing). eqb o.place (other_place place made) in
        filter_same (is_reopened before (without_coupling coupled place)) (is_reopened before coupled) left
        (All-weaker (Contains left) (λ o. is_reopened before (without_coupling coupled place) o ≡ is_reopened before coupled o)
        (λ o has. same o has (λ here. both_ways (list_any at left) (sym (find_is at left) ∙ ap is_some none) (list_any_member at left o (eq-eqb o.place (other_place place made) here) has)))
        left (All-contains_itself left))
    by (Some free) is =
        let passed = find_passed (λ (o : Standing). eqb o.place (other_place place made)) left free is in
        let here : free.place ≡ other_place place made = eqb-true free.place (other_place place made) passed.0 in
        let gone = gone_here coupled place made once found free.place (ap (λ n. has_place n made) here ∙ has_other place made) in
        let coupled_before : is_coupled before free.place ≡ true = ap (λ n. is_coupled before n) here ∙ was in
        passes_more (is_reopened before coupled) (is_reopened before (without_coupling coupled place)) left free by_place passed.1
        (ap (λ b. is_coupled before free.place && not b) gone.0 ∙ and-false (is_coupled before free.place))
        (and_from (is_coupled before free.place) (not (is_coupled (without_coupling coupled place) free.place)) coupled_before (ap not gone.1))
        (λ other has apart. same other has (λ at. apart (at ∙ sym here)))

-- where one offer ends, the others reopen what this sets free
pub reopened_with_free : (offers : List Standing) (before coupled : List Made) (offer : Standing) (party : ℕ) (ending : Ending) → ByPlace offers → AreOnce coupled → coupled ≡ couplings_among offers before →
    Contains offers offer → is_ended party ending offer ≡ true →
    reopened_among (without_ended offers party ending) before (without_coupling coupled offer.place)
    ≡ with_free (reopened_among (without_ended offers party ending) before coupled) (set_free offers coupled offer.place party ending)
reopened_with_free offers before coupled offer party ending by_place once among there ends = by (find (has_place offer.place) coupled) refl
  where
    by : (found : Option Made) → find (has_place offer.place) coupled ≡ found →
        reopened_among (without_ended offers party ending) before (without_coupling coupled offer.place)
        ≡ with_free (reopened_among (without_ended offers party ending) before coupled) (option_and_then (λ made. offer_at (without_ended offers party ending) (other_place offer.place made)) found)
    by None none = ap (reopened_among (without_ended offers party ending) before) (filter_past_none (has_place offer.place) coupled none)
    by (Some made) found =
        let has : Contains (couplings_among offers before) made = subst (λ ms. Contains ms made) among (find_passed (has_place offer.place) coupled made found).1 in
        reopened_by_one (without_ended offers party ending) before coupled offer.place made
        (AllPairs-filter (λ (one other : Standing). one.place < other.place) (λ o. not (is_ended party ending o)) offers by_place)
        (λ other left. left_elsewhere offers party ending offer other by_place there ends left) once found
        (list_any_member (has_place (other_place offer.place made)) before made (has_other offer.place made) (Contains-from_filter (λ m. both_stand offers m.pair) before made has))

-- without the offer that ends the same is set free
pub free_first : (offers : List Standing) (coupled : List Made) (offer : Standing) (party : ℕ) (ending : Ending) → ByPlace offers → Contains offers offer → is_ended party ending offer ≡ true →
    set_free (without_place offers offer.place) coupled offer.place party ending ≡ set_free offers coupled offer.place party ending
free_first offers coupled offer party ending by_place there ends =
    ap (λ left. option_and_then (λ made. offer_at left (other_place offer.place made)) (find (has_place offer.place) coupled)) (ended_first offers party ending offer by_place there ends)

-- some of the offers that an act ends have ended: the others are left, and the couplings of those that still stand; what this
-- sets free is noted
pub record EndedSoFar (offers : List Standing) (coupled : List Made) (party : ℕ) (ending : Ending) (standing : List Standing) (now : List Made) (noted : List Standing) : Type 0 where
  pub by_place : ByPlace standing
  pub left : without_ended standing party ending ≡ without_ended offers party ending
  pub coupled_still : now ≡ couplings_among standing coupled
  pub freed : noted ≡ reopened_among (without_ended offers party ending) coupled now

pub none_ended : (offers : List Standing) (coupled : List Made) (party : ℕ) (ending : Ending) → ByPlace offers → All (λ made. both_stand offers made.pair ≡ true) coupled →
    EndedSoFar offers coupled party ending offers coupled []
none_ended offers coupled party ending by_place stand = record {
  by_place = by_place;
  left = refl;
  coupled_still = sym (filter_whole (λ made. both_stand offers made.pair) coupled stand);
  freed = sym (none_kept (is_reopened coupled coupled) (without_ended offers party ending) (λ k d within. never (is_coupled coupled (get_or (without_ended offers party ending) k d).place)));
}
  where
    never : (b : Bool) → (b && not b) ≡ false
    never true = refl
    never false = refl

pub still_once : (offers : List Standing) (coupled now : List Made) → AreOnce coupled → now ≡ couplings_among offers coupled → AreOnce now
still_once offers coupled now once among place =
    omega (arith, count_by-filter (has_place place) (λ (m : Made). both_stand offers m.pair) coupled, once place, ap (count_by (has_place place)) among)

pub one_ended : (offers : List Standing) (coupled : List Made) (party : ℕ) (ending : Ending) (standing : List Standing) (now : List Made) (noted : List Standing) (offer : Standing) →
    AreOnce coupled → EndedSoFar offers coupled party ending standing now noted → find (is_ended party ending) standing ≡ Some offer →
    EndedSoFar offers coupled party ending (without_place standing offer.place) (without_coupling now offer.place) (with_free noted (set_free standing now offer.place party ending))
one_ended offers coupled party ending standing now noted offer once so_far found =
    let is = find_passed (is_ended party ending) standing offer found in
    let free = set_free standing now offer.place party ending in
    record {
      by_place = AllPairs-filter (λ (one other : Standing). one.place < other.place) (λ o. not (eqb o.place offer.place)) standing so_far.by_place;
      left = ended_first standing party ending offer so_far.by_place is.1 is.0 ∙ so_far.left;
      coupled_still = ap (λ ms. without_coupling ms offer.place) so_far.coupled_still ∙ couplings_without standing coupled offer.place;
      freed = ap (λ os. with_free os free) so_far.freed
          ∙ sym (subst (λ l. reopened_among l coupled (without_coupling now offer.place) ≡ with_free (reopened_among l coupled now) free) so_far.left
          (reopened_with_free standing coupled now offer party ending so_far.by_place (still_once standing coupled now once so_far.coupled_still) so_far.coupled_still is.1 is.0));
    }

-- the same of what the code has
pub ended_as : (offers : List Standing) (coupled : List Made) (party : ℕ) (ending : Ending) (standing after : List Standing) (now then : List Made) (noted more : List Standing) →
    after ≡ standing → then ≡ now → more ≡ noted → EndedSoFar offers coupled party ending standing now noted → EndedSoFar offers coupled party ending after then more
ended_as offers coupled party ending standing after now then noted more is_standing is_now is_noted h =
    subst (λ os. EndedSoFar offers coupled party ending os then more) (sym is_standing)
    (subst (λ ms. EndedSoFar offers coupled party ending standing ms more) (sym is_now)
    (subst (λ rs. EndedSoFar offers coupled party ending standing now rs) (sym is_noted) h))

pub all_ended : (offers : List Standing) (coupled : List Made) (party : ℕ) (ending : Ending) (standing : List Standing) (now : List Made) (noted : List Standing) →
    EndedSoFar offers coupled party ending standing now noted → find (is_ended party ending) standing ≡ None →
    (standing ≡ without_ended offers party ending) × (now ≡ kept_by_ending offers coupled party ending) × (noted ≡ reopened_by_ending offers coupled party ending)
all_ended offers coupled party ending standing now noted so_far none =
    let stand = sym (filter_past_none (is_ended party ending) standing none) ∙ so_far.left in
    let kept = so_far.coupled_still ∙ ap (λ os. couplings_among os coupled) stand in
    (stand, kept, so_far.freed ∙ ap (λ ms. reopened_among (without_ended offers party ending) coupled ms) kept)
