-- Offers that could be coupled, and what a leave makes of them.
use Rattle.std.proofs.Common.{◌≡◌, refl, sym, ap, ◌∙◌, subst, ℕ, suc, ◌<◌, Bool, true, false, not, eqb, List, [], ◌∷◌, ◌++◌, length, map, Option, Some, None, ◌⊎◌, inl, inr, arith, length-append}
use Rattle.std.specs.Prelude.{Contains, AllPairs, option_to_list}
use Rattle.std.specs.List.{list_any}
use Rattle.std.proofs.lemmas.Bool.{cases_Bool, and_parts, and_from, not-true, not_from_false, both_ways, or_cases, or_left, or_right, eq-eqb}
use Rattle.std.proofs.lemmas.List.{append_assoc, append-nil}
use Rattle.sv_events.specs.declared.entry.Pair.{Pair}
use Rattle.sv_rules.specs.declared.standing.Standing.{Standing}
use Rattle.sv_rules.specs.declared.coupling.Made.{Made}
use Rattle.sv_rules.specs.Standing.{is_match}
use Rattle.sv_rules.specs.Coupling.{has_place, is_coupled, is_open_match, open_match, pair_of, rejoined, recoupled}
use Rattle.sv_offer_laws.specs.CouplingLaws.{IsOldestOpenMatch}
use Rattle.sv_offer_laws.specs.LegalLaws.{made_at}
use Rattle.sv_offer_laws.specs.EndingLaws.{CouldCouple, IsNextPair}
use Rattle.sv_offer_laws.proofs.Members.{Contains-head, Contains-behind, Contains-cons_cases}
use Rattle.sv_offer_laws.proofs.PlaceLemmas.{ComesBefore}
use Rattle.sv_offer_laws.proofs.MatchLemmas.{pair_of_cases}
use Rattle.sv_offer_laws.proofs.CouplingLemmas.{oldest_match, none_is_taken_of_none}

-- what some element of a list passes, some element of a longer one does
pub any-append_left : {X : Type 0} (p : X → Bool) (xs ys : List X) → list_any p xs ≡ true → list_any p (xs ++ ys) ≡ true
any-append_left p [] ys h = cc
any-append_left p (x ∷ xs) ys h = elim (or_cases (p x) (list_any p xs) h) [
  | inl here ↦ or_left (p x) (list_any p (xs ++ ys)) here
  | inr later ↦ or_right (p x) (list_any p (xs ++ ys)) (any-append_left p xs ys later)
]

pub any-append_right : {X : Type 0} (p : X → Bool) (xs ys : List X) → list_any p ys ≡ true → list_any p (xs ++ ys) ≡ true
any-append_right p [] ys h = h
any-append_right p (x ∷ xs) ys h = or_right (p x) (list_any p (xs ++ ys)) (any-append_right p xs ys h)

-- an offer that is open among more couplings is open among fewer
pub open_among : (coupled more : List Made) (place : ℕ) → is_coupled (coupled ++ more) place ≡ false → is_coupled coupled place ≡ false
open_among coupled more place h = elim (cases_Bool (is_coupled coupled place)) [
  | inl taken ↦ absurd (both_ways (is_coupled (coupled ++ more) place) h (any-append_left (has_place place) coupled more taken))
  | inr free ↦ free
]

-- an offer that could be coupled later could be before
could_before : (offers : List Standing) (coupled more : List Made) (offer : Standing) → CouldCouple offers (coupled ++ more) offer → CouldCouple offers coupled offer
could_before offers coupled more offer h =
    let parts = and_parts (not (is_coupled (coupled ++ more) h.1.place)) (is_match offer h.1) h.3 in
    let one = open_among coupled more offer.place (not-true _ h.0) in
    let other = open_among coupled more h.1.place (not-true _ parts.0) in
    (not_from_false _ one, h.1, h.2, and_from _ _ (not_from_false _ other) parts.1)

-- the pair of two offers has the place of each
pub has_place-one : (one other : Standing) (at : ℕ) → has_place one.place (record { pair = pair_of one other; at = at }) ≡ true
has_place-one one other at = elim (pair_of_cases one other) [
  | inl c ↦ or_left (eqb (pair_of one other).a one.place) (eqb (pair_of one other).b one.place) (eq-eqb (pair_of one other).a one.place c.1)
  | inr c ↦ or_right (eqb (pair_of one other).a one.place) (eqb (pair_of one other).b one.place) (eq-eqb (pair_of one other).b one.place c.2)
]

pub has_place-other : (one other : Standing) (at : ℕ) → has_place other.place (record { pair = pair_of one other; at = at }) ≡ true
has_place-other one other at = elim (pair_of_cases one other) [
  | inl c ↦ or_right (eqb (pair_of one other).a other.place) (eqb (pair_of one other).b other.place) (eq-eqb (pair_of one other).b other.place c.2)
  | inr c ↦ or_left (eqb (pair_of one other).a other.place) (eqb (pair_of one other).b other.place) (eq-eqb (pair_of one other).a other.place c.1)
]

-- what a reopened offer makes: nothing where it could not be coupled, else the pair with its oldest open match
data Joining (offers : List Standing) (coupled : List Made) (at : ℕ) (offer : Standing) (made : Option Made) : Type 0 where
  none_made : made ≡ None → (CouldCouple offers coupled offer → ⊥) → Joining offers coupled at offer made
  one_made : (match : Standing) → is_coupled coupled offer.place ≡ false → open_match offers coupled offer ≡ Some match →
      made ≡ Some (record { pair = pair_of offer match; at = at }) → Joining offers coupled at offer made

joining_is : (offers : List Standing) (coupled : List Made) (at : ℕ) (offer : Standing) → Joining offers coupled at offer (rejoined at offers coupled offer)
joining_is offers coupled at offer = elim (cases_Bool (is_coupled coupled offer.place)) [
  | inl taken ↦ none_made (rw taken refl) (λ could. both_ways (is_coupled coupled offer.place) (not-true _ could.0) taken)
  | inr free ↦ with_match free (open_match offers coupled offer) refl
]
  where
    with_match : is_coupled coupled offer.place ≡ false → (match : Option Standing) → open_match offers coupled offer ≡ match → Joining offers coupled at offer (rejoined at offers coupled offer)
    with_match free None found = none_made (rw (free, found) refl) (λ could. none_is_taken_of_none (is_open_match coupled offer) offers could.1 found could.2 could.3)
    with_match free (Some match) found = one_made match free found (rw (free, found) refl)

-- what reopened offers make where the first makes nothing, and where it makes a pair
recoupled-none : (at : ℕ) (offers : List Standing) (coupled : List Made) (offer : Standing) (reopened : List Standing) → rejoined at offers coupled offer ≡ None → recoupled at offers coupled (offer ∷ reopened) ≡ recoupled at offers coupled reopened
recoupled-none at offers coupled offer reopened none =
    ap (λ m. option_to_list m ++ recoupled at offers (coupled ++ option_to_list m) reopened) none ∙ ap (λ c. recoupled at offers c reopened) (append-nil coupled)

recoupled-some : (at : ℕ) (offers : List Standing) (coupled : List Made) (offer : Standing) (reopened : List Standing) (made : Made) → rejoined at offers coupled offer ≡ Some made → recoupled at offers coupled (offer ∷ reopened) ≡ made ∷ recoupled at offers (coupled ++ made ∷ []) reopened
recoupled-some at offers coupled offer reopened made some = ap (λ m. option_to_list m ++ recoupled at offers (coupled ++ option_to_list m) reopened) some

-- no offer that was reopened stays open beside an open match
pub recoupled_closes : (at : ℕ) (offers : List Standing) (coupled : List Made) (reopened : List Standing) (one other : Standing) → Contains reopened one → Contains offers other →
    is_coupled (coupled ++ recoupled at offers coupled reopened) one.place ≡ false → is_coupled (coupled ++ recoupled at offers coupled reopened) other.place ≡ false → is_match one other ≡ true → ⊥
recoupled_closes at offers coupled [] one other has has_other open_one open_other matching = omega (arith, has.1)
recoupled_closes at offers coupled (offer ∷ reopened) one other has has_other open_one open_other matching =
    elim (Contains-cons_cases offer reopened one has) [
      | inl same ↦ first (joining_is offers coupled at one) same
      | inr there ↦
          let made = option_to_list (rejoined at offers coupled offer) in
          let along = append_assoc coupled made (recoupled at offers (coupled ++ made) reopened) in
          recoupled_closes at offers (coupled ++ made) reopened one other there has_other
          (ap (λ ms. is_coupled ms one.place) along ∙ open_one)
          (ap (λ ms. is_coupled ms other.place) along ∙ open_other) matching
    ]
  where
    more : List Made
    more = recoupled at offers coupled (offer ∷ reopened)

    could : CouldCouple offers coupled one
    could = (
      not_from_false _ (open_among coupled more one.place open_one),
      other,
      has_other,
      and_from _ _ (not_from_false _ (open_among coupled more other.place open_other)) matching,
    )

    first : Joining offers coupled at one (rejoined at offers coupled one) → offer ≡ one → ⊥
    first (none_made none cannot) same = cannot could
    first (one_made match free found some) same =
        let pair : Made = record { pair = pair_of one match; at = at } in
        let here = recoupled-some at offers coupled offer reopened pair (ap (rejoined at offers coupled) same ∙ some) in
        both_ways (is_coupled (coupled ++ more) one.place) open_one
        (any-append_right (has_place one.place) coupled more
        (ap (λ ms. is_coupled ms one.place) here ∙ or_left (has_place one.place pair) (is_coupled (recoupled at offers (coupled ++ pair ∷ []) reopened) one.place) (has_place-one one match at)))

-- an offer of a reopened list that is left, or can be coupled no more
abbrev IsPassed : List Standing → List Made → List Standing → Standing → Type 0
IsPassed offers coupled reopened offer = (CouldCouple offers coupled offer → ⊥) ⊎ Contains reopened offer

-- the first offer that is left is the oldest that could be coupled
first_left : (offers all : List Standing) (coupled more : List Made) (offer : Standing) (reopened : List Standing) → AllPairs ComesBefore (offer ∷ reopened) →
    ((o : Standing) → Contains all o → IsPassed offers coupled (offer ∷ reopened) o) →
    (o : Standing) → Contains all o → o.place < offer.place → CouldCouple offers (coupled ++ more) o → ⊥
first_left offers all coupled more offer reopened by_place settled o has before could = elim (settled o has) [
  | inl cannot ↦ cannot (could_before offers coupled more o could)
  | inr left ↦ elim (Contains-cons_cases offer reopened o left) [
    | inl same ↦ let at_same = ap (λ (x : Standing). x.place) same in omega arith
    | inr there ↦ let below = rw (there.2) at (by_place 0 (suc there.0) o (omega arith) (omega (arith, there.1))) in omega arith
  ]
]

-- once the first can be coupled no more, the others are left
passed_first : (offers all : List Standing) (coupled more : List Made) (offer : Standing) (reopened : List Standing) → (CouldCouple offers (coupled ++ more) offer → ⊥) →
    ((o : Standing) → Contains all o → IsPassed offers coupled (offer ∷ reopened) o) →
    (o : Standing) → Contains all o → IsPassed offers (coupled ++ more) reopened o
passed_first offers all coupled more offer reopened cannot settled o has = elim (settled o has) [
  | inl cannot_o ↦ inl (λ could. cannot_o (could_before offers coupled more o could))
  | inr left ↦ elim (Contains-cons_cases offer reopened o left) [
    | inl same ↦ inl (subst (λ x. CouldCouple offers (coupled ++ more) x → ⊥) same cannot)
    | inr there ↦ inr there
  ]
]

-- the next pair is that of the first offer that is left
first_is_next : (offers all : List Standing) (coupled : List Made) (offer : Standing) (reopened : List Standing) → AllPairs ComesBefore offers → AllPairs ComesBefore (offer ∷ reopened) → Contains all offer →
    ((o : Standing) → Contains all o → IsPassed offers coupled (offer ∷ reopened) o) →
    (match : Standing) (pair : Pair) → is_coupled coupled offer.place ≡ false → open_match offers coupled offer ≡ Some match → pair ≡ pair_of offer match → IsNextPair offers all (coupled ++ []) pair
first_is_next offers all coupled offer reopened ascend by_place has settled match pair free found same = record {
  one = offer;
  match = match;
  was_reopened = has;
  is_open = not_from_false _ (ap (λ ms. is_coupled ms offer.place) (append-nil coupled) ∙ free);
  oldest = subst (λ ms. IsOldestOpenMatch offers ms offer match) (sym (append-nil coupled)) (oldest_match offers coupled offer match ascend found);
  first = first_left offers all coupled [] offer reopened by_place settled;
  same = same;
}

-- each pair that reopened offers make is the next of its moment
pub next_pairs : (at : ℕ) (offers all : List Standing) (coupled : List Made) (reopened : List Standing) → AllPairs ComesBefore offers → AllPairs ComesBefore reopened →
    ((o : Standing) → Contains reopened o → Contains all o) → ((o : Standing) → Contains all o → (CouldCouple offers coupled o → ⊥) ⊎ Contains reopened o) →
    (so_far : List Pair) (pair : Pair) (later : List Pair) → map (λ m. m.pair) (recoupled at offers coupled reopened) ≡ so_far ++ pair ∷ later →
    IsNextPair offers all (coupled ++ made_at at so_far) pair
next_pairs at offers all coupled [] ascend by_place among settled so_far pair later h = absurd (omega (arith, ap length h, length-append so_far (pair ∷ later)))
next_pairs at offers all coupled (offer ∷ reopened) ascend by_place among settled so_far pair later h =
    go (λ cs passed before k. next_pairs at offers all cs reopened ascend (λ i j d before within. by_place (suc i) (suc j) d (omega arith) (omega arith)) (λ o there. among o (Contains-behind offer reopened o there)) passed before pair later k)
    (joining_is offers coupled at offer)
  where
    Rest : Type 0
    Rest = (cs : List Made) → ((o : Standing) → Contains all o → IsPassed offers cs reopened o) → (before : List Pair) → map (λ m. m.pair) (recoupled at offers cs reopened) ≡ before ++ pair ∷ later →
        IsNextPair offers all (cs ++ made_at at before) pair

    taken : (match : Standing) → CouldCouple offers (coupled ++ (record { pair = pair_of offer match; at = at }) ∷ []) offer → ⊥
    taken match could =
        let made : Made = record { pair = pair_of offer match; at = at } in
        both_ways (is_coupled (coupled ++ made ∷ []) offer.place) (not-true _ could.0)
        (any-append_right (has_place offer.place) coupled (made ∷ []) (or_left (has_place offer.place made) false (has_place-one offer match at)))

    by_made : Rest → (match : Standing) → is_coupled coupled offer.place ≡ false → open_match offers coupled offer ≡ Some match →
        (before : List Pair) → pair_of offer match ∷ map (λ m. m.pair) (recoupled at offers (coupled ++ (record { pair = pair_of offer match; at = at }) ∷ []) reopened) ≡ before ++ pair ∷ later →
        IsNextPair offers all (coupled ++ made_at at before) pair
    by_made rest match free found [] k = first_is_next offers all coupled offer reopened ascend by_place (among offer (Contains-head offer reopened)) settled match pair free found cc
    by_made rest match free found (p ∷ before) k =
        let made : Made = record { pair = pair_of offer match; at = at } in
        let first : pair_of offer match ≡ p = cc in
        let next = rest (coupled ++ made ∷ []) (passed_first offers all coupled (made ∷ []) offer reopened (taken match) settled) before cc in
        subst (λ q. IsNextPair offers all (coupled ++ made_at at (q ∷ before)) pair) first
        (subst (λ ms. IsNextPair offers all ms pair) (append_assoc coupled (made ∷ []) (made_at at before)) next)

    go : Rest → Joining offers coupled at offer (rejoined at offers coupled offer) → IsNextPair offers all (coupled ++ made_at at so_far) pair
    go rest (none_made none cannot) =
        rest coupled
        (λ o has. elim (passed_first offers all coupled [] offer reopened (λ could. cannot (subst (λ ms. CouldCouple offers ms offer) (append-nil coupled) could)) settled o has) [
          | inl cannot_o ↦ inl (λ could. cannot_o (subst (λ ms. CouldCouple offers ms o) (sym (append-nil coupled)) could))
          | inr there ↦ inr there
        ])
        so_far (sym (ap (map (λ m. m.pair)) (recoupled-none at offers coupled offer reopened none)) ∙ h)
    go rest (one_made match free found some) =
        by_made rest match free found so_far (sym (ap (map (λ m. m.pair)) (recoupled-some at offers coupled offer reopened _ some)) ∙ h)
